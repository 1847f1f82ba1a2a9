-- A text is the dump of the rows that were read, or has its first bad line where no row can be read.
use Rattle.std.proofs.Common.{◌≡◌, ℕ, ◌+◌, ◌≤◌, ◌<◌, Bool, true, false, List, [], ◌∷◌, ◌++◌, length, take, drop, get_or, map, IsTrue, Some, None, refl, sym, ap, subst, ◌∙◌, append_assoc, append-nil, arith}
use Rattle.std.proofs.lemmas.Bool.{true≢false}
use Rattle.std.proofs.lemmas.List.{take_at, length-append, map-append, length-map}
use Rattle.topo_base.specs.declared.rows.Counters.{Counters}
use Rattle.validate_topology.specs.declared.raw.RawTables.{RawTables}
use Rattle.table_dump.specs.Dump.{is_counters, IsDumped, dump_lines, IsDump, Begins, IsFirstBad}
use Rattle.script_model.specs.Texts.{rows_text}
use Rattle.validate_topology.specs.Raw.{tables_in}
use Rattle.table_dump.specs.DumpLaw.{AreDumpsApart, AreDumpsGood, ArePrintedBack}
use Rattle.table_dump.specs.Lines.{lines_of, words_of}
use Rattle.table_dump.specs.Rows.{DumpRow, Node, Edge, Universal, Face, Layer, Feature, Relation, next_in, row_in}
use Rattle.table_dump.specs.Steps.{Front, begun, may_follow, with_row, IsPut}
use Rattle.table_dump.proofs.Follow.{row_line, next_line, Follow, reach, follow_push, reach_push, row_of, next_of, next_read, next_same, rows_same, stuck, front_same, all_same}
use Rattle.table_dump.proofs.Segments.{rows_of, whole, dump_follows, dump_leads, begun_front, grown}
use Rattle.table_dump.proofs.Printed.{printed}

-- ---- the rows of a dump whose lines begin so
head_same : (a b : List ℕ) (us vs : List (List ℕ)) → a ∷ us ≡ b ∷ vs → a ≡ b
head_same a b us vs e = ap (λ ls. get_or ls 0 []) e

tail_same : (a b : List ℕ) (us vs : List (List ℕ)) → a ∷ us ≡ b ∷ vs → us ≡ vs
tail_same a b us vs e = ap (drop 1) e

-- a dump with these next ids on its first line has these
with_next : (r : RawTables) (n : Counters) (ls : List (List ℕ)) → IsDumped r → IsTrue (is_counters n) → dump_lines r ≡ next_line n ∷ ls → (r.next ≡ n) × (map row_line (rows_of (whole r)) ≡ ls)
with_next r n ls h good e =
    let both : next_line r.next ∷ map row_line (rows_of (whole r)) ≡ next_line n ∷ ls = sym (printed r h) ∙ e in
    (next_same r.next n h.next good (head_same (next_line r.next) (next_line n) (map row_line (rows_of (whole r))) ls both), tail_same (next_line r.next) (next_line n) (map row_line (rows_of (whole r))) ls both)

-- ---- what was read so far
pub record IsReadTo (text rest : List ℕ) (line : ℕ) (f : Front) : Type 0 where
  pub next : Counters
  pub good : IsTrue (is_counters next)
  pub done : List DumpRow
  pub follow : Follow (begun next) done
  pub reached : f ≡ reach (begun next) done
  pub lines : lines_of text ≡ next_line next ∷ (map row_line done ++ lines_of rest)
  pub count : line ≡ length done + 1
  pub short : line + length rest ≤ length text

-- the rows so far, and face 0 where it wasn't there, are those of a dump
record IsWhole (n : Counters) (done : List DumpRow) : Type 0 where
  raw : RawTables
  dumped : IsDumped raw
  more : List DumpRow
  rows : dump_lines raw ≡ next_line n ∷ map row_line (done ++ more)

row_kept : (f : Front) (x : DumpRow) → (with_row f x).raw.next ≡ f.raw.next
row_kept f (Node n) = refl
row_kept f (Edge e) = refl
row_kept f Universal = refl
row_kept f (Face a) = refl
row_kept f (Layer l) = refl
row_kept f (Feature t) = refl
row_kept f (Relation r) = refl

next_kept : (f : Front) (xs : List DumpRow) → (reach f xs).raw.next ≡ f.raw.next
next_kept f [] = refl
next_kept f (x ∷ xs) = next_kept (with_row f x) xs ∙ row_kept f x

-- where face 0 was there
ended : (n : Counters) (done : List DumpRow) → IsTrue (is_counters n) → Follow (begun n) done → (reach (begun n) done).has_face_0 ≡ true → IsDumped (reach (begun n) done).raw × (dump_lines (reach (begun n) done).raw ≡ next_line n ∷ map row_line done)
ended n done good h there =
    let f = reach (begun n) done in
    let g = grown (begun n) done (begun_front n good) h in
    let same : whole f.raw ≡ f = λ i. record { raw = f.raw; has_face_0 = sym there i } in (
      g.0.dumped,
      printed f.raw g.0.dumped ∙ (λ i. next_line (next_kept (begun n) done i) ∷ map row_line ((ap rows_of same ∙ g.1) i)),
    )

begins_whole : (n : Counters) (done : List DumpRow) → IsTrue (is_counters n) → Follow (begun n) done → (b : Bool) → (reach (begun n) done).has_face_0 ≡ b → IsWhole n done
begins_whole n done good h true there =
    let e = ended n done good h there in
    record { raw = (reach (begun n) done).raw; dumped = e.0; more = []; rows = e.1 ∙ ap (λ xs. next_line n ∷ map row_line xs) (sym (append-nil done)) }
begins_whole n done good h false there =
    let more = done ++ Universal ∷ [] in
    let may : IsTrue (may_follow (reach (begun n) done) Universal) = rw there refl in
    let all = follow_push (begun n) done Universal h refl may in
    let on = reach_push (begun n) done Universal in
    let e = ended n more good all (ap (λ (f : Front). f.has_face_0) on) in
    record { raw = (reach (begun n) more).raw; dumped = e.0; more = Universal ∷ []; rows = e.1 }

-- a dump begins with the lines so far
begins : (text rest : List ℕ) (line : ℕ) (f : Front) → IsReadTo text rest line f → Begins (lines_of text) line
begins text rest line f h =
    let w = begins_whole h.next h.done h.good h.follow (reach (begun h.next) h.done).has_face_0 refl in
    let front = next_line h.next ∷ map row_line h.done in
    let size : length front ≡ line = omega (arith, length-map h.done row_line, h.count) in
    let here : take line (lines_of text) ≡ front = ap (take line) h.lines ∙ take_at front (lines_of rest) line size in
    let there : take line (dump_lines w.raw) ≡ front =
    ap (take line) (w.rows ∙ ap (λ ls. next_line h.next ∷ ls) (map-append row_line h.done w.more)) ∙ take_at front (map row_line w.more) line size in
    record { raw = w.raw; dumped = w.dumped; printed = here ∙ sym there }

-- ---- the first line
pub first_bad : (text line rest : List ℕ) → lines_of text ≡ line ∷ lines_of rest → next_in (words_of line) ≡ None → IsFirstBad text 1
first_bad text line rest is none =
    record {
      before = 0;
      is = refl;
      good = record { raw = raw; dumped = dumped; printed = refl };
      bad = λ b.
          let begun_so = front_same 1 [] line (lines_of rest) (dump_lines b.raw) refl (ap (take 1) (sym is) ∙ b.printed) in
          let same = head_same line (next_line b.raw.next) _ _ (sym begun_so ∙ printed b.raw b.dumped) in
          let read = next_read line b.raw.next b.dumped.next same in
          let clash : None ≡ Some b.raw.next = sym none ∙ read in
          cc;
    }
  where
    one : Counters
    one = record { node = 1; edge = 1; face = 1; layer = 1; feature = 1 }

    raw : RawTables
    raw = (begun one).raw

    dumped : IsDumped raw
    dumped = (begun_front one refl).dumped

pub empty_bad : (text : List ℕ) → lines_of text ≡ [] → IsFirstBad text 1
empty_bad text is =
    record {
      before = 0;
      is = refl;
      good = record { raw = raw; dumped = dumped; printed = refl };
      bad = λ b.
          let none = all_same 1 (lines_of text) (dump_lines b.raw) (ap (λ ls. length ls + 1) (sym is)) b.printed in
          let clash : [] ≡ next_line b.raw.next ∷ map row_line (rows_of (whole b.raw)) = sym (none ∙ is) ∙ printed b.raw b.dumped in
          cc;
    }
  where
    one : Counters
    one = record { node = 1; edge = 1; face = 1; layer = 1; feature = 1 }

    raw : RawTables
    raw = (begun one).raw

    dumped : IsDumped raw
    dumped = (begun_front one refl).dumped

pub begin_read : (text line rest : List ℕ) (n : Counters) (f : Front) → lines_of text ≡ line ∷ lines_of rest → next_in (words_of line) ≡ Some n → f ≡ begun n → length rest < length text → IsReadTo text rest 1 f
begin_read text line rest n f is read begins_so shorter =
    let t = next_of line n read in
    record {
      next = n;
      good = t.0;
      done = [];
      follow = tt;
      reached = begins_so;
      lines = is ∙ ap (λ l. l ∷ lines_of rest) t.1;
      count = refl;
      short = omega (arith, shorter);
    }

-- ---- one line more
pub read_on : (text rest after one : List ℕ) (line : ℕ) (f g : Front) → IsReadTo text rest line f → lines_of rest ≡ one ∷ lines_of after → length after < length rest → IsPut (row_in (words_of one)) f g → IsReadTo text after (line + 1) g
read_on text rest after one line f g h is shorter put =
    let x = put.value in
    let t = row_of one x put.is in
    let more = h.done ++ x ∷ [] in
    record {
      next = h.next;
      good = h.good;
      done = more;
      follow = follow_push (begun h.next) h.done x h.follow t.0 (subst (λ e. IsTrue (may_follow e x)) h.reached put.follows);
      reached = put.put ∙ ap (λ e. with_row e x) h.reached ∙ sym (reach_push (begun h.next) h.done x);
      lines = h.lines ∙ ap (λ ls. next_line h.next ∷ ls) (
          ap (λ ls. map row_line h.done ++ ls) (is ∙ ap (λ l. l ∷ lines_of after) t.1)
          ∙ sym (append_assoc (map row_line h.done) (row_line x ∷ []) (lines_of after))
          ∙ ap (λ ls. ls ++ lines_of after) (sym (map-append row_line h.done (x ∷ [])))
          );
      count = omega (arith, length-append h.done (x ∷ []), h.count);
      short = omega (arith, h.short, shorter);
    }

-- ---- a line that is bad
pub line_bad : (text rest after one : List ℕ) (line : ℕ) (f : Front) → IsReadTo text rest line f → lines_of rest ≡ one ∷ lines_of after
    → ((x : DumpRow) → row_in (words_of one) ≡ Some x → IsTrue (may_follow f x) → ⊥) → IsFirstBad text (line + 1)
line_bad text rest after one line f h is none =
    record {
      before = line;
      is = refl;
      good = begins text rest line f h;
      bad = λ b.
          let front = next_line h.next ∷ map row_line h.done in
          let size : line + 1 ≡ length front + 1 = omega (arith, length-map h.done row_line, h.count) in
          let lines : lines_of text ≡ front ++ one ∷ lines_of after = h.lines ∙ ap (λ ls. front ++ ls) is in
          let same = front_same (line + 1) front one (lines_of after) (dump_lines b.raw) size (ap (take (line + 1)) (sym lines) ∙ b.printed) in
          let t = with_next b.raw h.next _ b.dumped h.good same in
          stuck (begun h.next) h.done one _ (rows_of (whole b.raw)) h.follow (subst (λ n. Follow (begun n) (rows_of (whole b.raw))) t.0 (dump_follows b.raw b.dumped)) t.1
          (λ x read may. none x read (subst (λ e. IsTrue (may_follow e x)) (sym h.reached) may));
    }

-- ---- the end
done_lines : (text : List ℕ) (line : ℕ) (f : Front) → (h : IsReadTo text [] line f) → lines_of text ≡ next_line h.next ∷ map row_line h.done
done_lines text line f h = h.lines ∙ ap (λ ls. next_line h.next ∷ ls) (append-nil (map row_line h.done))

pub end_bad : (text : List ℕ) (line : ℕ) (f : Front) → IsReadTo text [] line f → f.has_face_0 ≡ false → IsFirstBad text (line + 1)
end_bad text line f h missing =
    record {
      before = line;
      is = refl;
      good = begins text [] line f h;
      bad = λ b.
          let lines = done_lines text line f h in
          let size : line + 1 ≡ length (lines_of text) + 1 = omega (arith, length-map h.done row_line, h.count, ap length lines) in
          let same = all_same (line + 1) (lines_of text) (dump_lines b.raw) size b.printed in
          let t = with_next b.raw h.next _ b.dumped h.good (same ∙ lines) in
          let follows = subst (λ n. Follow (begun n) (rows_of (whole b.raw))) t.0 (dump_follows b.raw b.dumped) in
          let all = rows_same (begun h.next) (rows_of (whole b.raw)) h.done follows h.follow t.1 in
          let reached : whole b.raw ≡ f = sym (dump_leads b.raw) ∙ (λ i. reach (begun (t.0 i)) (all i)) ∙ sym h.reached in
          true≢false (ap (λ (e : Front). e.has_face_0) reached ∙ missing);
    }

pub end_good : (text : List ℕ) (line : ℕ) (f : Front) → IsReadTo text [] line f → f.has_face_0 ≡ true → IsDump text f.raw
end_good text line f h there =
    let e = ended h.next h.done h.good h.follow (ap (λ (g : Front). g.has_face_0) (sym h.reached) ∙ there) in
    subst (λ (g : Front). IsDump text g.raw) (sym h.reached) (record { dumped = e.0; printed = done_lines text line f h ∙ sym e.1 })

-- ---- laws
pub dumps_apart : AreDumpsApart
dumps_apart text r s h k =
    let both = sym (printed r h.dumped) ∙ sym h.printed ∙ k.printed ∙ printed s k.dumped in
    let t = with_next r s.next (map row_line (rows_of (whole s))) h.dumped k.dumped.next (sym h.printed ∙ k.printed ∙ printed s k.dumped) in
    let follows = subst (λ n. Follow (begun n) (rows_of (whole r))) t.0 (dump_follows r h.dumped) in
    let all = rows_same (begun s.next) (rows_of (whole r)) (rows_of (whole s)) follows (dump_follows s k.dumped) t.1 in
    ap (λ (f : Front). f.raw) (sym (dump_leads r) ∙ (λ i. reach (begun (t.0 i)) (all i)) ∙ dump_leads s)

pub dumps_good : AreDumpsGood
dumps_good text r n h bad = bad.bad (record { raw = r; dumped = h.dumped; printed = ap (take n) h.printed })

pub printed_back : ArePrintedBack
printed_back r s h =
    let own : IsDump (rows_text (tables_in r)) r = record { dumped = h; printed = refl } in
    (own, λ other. dumps_apart (rows_text (tables_in r)) s r other own)
