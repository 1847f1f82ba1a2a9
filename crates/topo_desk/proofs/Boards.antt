-- A board's parts, from what its calls give.
use Rattle.std.proofs.Common.{◌≡◌, ◌≤◌, ℕ, ◌+◌, false, nat_le, List, [], ◌∷◌, ◌++◌, length, IsTrue, Bool, Result, Ok, Err, IfOk, IfErr, is_ok, sym, ap, subst, ◌∙◌, arith, leb-true, le-leb}
use Rattle.std.proofs.Math.Bool.{and-true}
use Rattle.std.specs.List.{list_any}
use Rattle.topo_base.specs.declared.edit.Edit.{Edit}
use Rattle.topo_base.specs.declared.edit.Entry.{Entry}
use Rattle.topo_base.specs.declared.element.Element.{Element}
use Rattle.topo_base.specs.declared.write.RowWrite.{RowWrite}
use Rattle.read_set.specs.declared.edited.Edited.{Edited}
use Rattle.read_set.specs.Plans.{IsPlanFor}
use Rattle.read_set.specs.declared.end.PlanEnd.{PlanEnd}
use Rattle.read_set.specs.declared.end.PlanEnd.TheVariants.{Refused, Memory}
use Rattle.history_model.specs.Answers.{Bounds}
use Rattle.drawing.specs.Drawing.{Drawing}
use Rattle.drawing.specs.InRange.{is_spelled}
use Rattle.history_model.specs.Legal.{is_legal, journal_length}
use Rattle.drawing.specs.Replay.{replay, answer_of}
use Rattle.history_model.specs.Spelling.{frame_bytes}
use Rattle.drawing.specs.Step.{step}
use Rattle.drawing.specs.Tables.{Tables, tables_of, drawn}
use Rattle.drawing.specs.Writes.{all_written}
use Rattle.history_model.proofs.LegalHistories.{legal-push}
use Rattle.plane.proofs.LineTurns.{all-append}
use Rattle.drawing.proofs.TableLemmas.{drawn-tables_of}
use Rattle.topo_desk.specs.Beyond.{adds_beyond}
use Rattle.topo_desk.specs.Boarded.{Boarded, IsBoard}
use Rattle.topo_desk.specs.Prepared.{IsReadied, IsUnready}
use Rattle.topo_desk.specs.Verdict.{verdict}
use Rattle.topo_desk.proofs.Entering.{refused_as, also_after, entry_is, IsPlanned, long_with, within_on, frame_length, journal_more}

-- ---- planning
pub drawing_is : (rows : Tables) (history : List Entry) → rows ≡ tables_of (replay history) → drawn rows ≡ replay history
drawing_is rows history stands = ap drawn stands ∙ drawn-tables_of (replay history)

pub planned_on : (rows : Tables) (h k : List Entry) (e : Edit) (r : Result Edited PlanEnd) → rows ≡ tables_of (replay h) → h ≡ k → IfOk r (λ p. IsPlanFor (drawn rows) e p.writes p.ids)
    → IfOk r (λ p. IsPlanFor (replay k) e p.writes p.ids)
planned_on rows h k e r stands same planned = subst (λ (S : Drawing). IfOk r (λ p. IsPlanFor S e p.writes p.ids)) (drawing_is rows h stands ∙ ap replay same) planned

pub refused_on : (rows : Tables) (h k : List Entry) (m : Bounds) (front editor : ℕ) (e : Edit) (r : Result Edited PlanEnd) → rows ≡ tables_of (replay h) → h ≡ k → front ≡ length h
    → IfErr r (IsUnready (answer_of front (step (drawn rows) e))) → IfErr r (IsUnready (verdict m k (record { editor = editor; edit = e })))
refused_on rows h k m front editor e (Ok p) stands same at unready = unready
refused_on rows h k m front editor e (Err Memory) stands same at unready = tt
refused_on rows h k m front editor e (Err (Refused rule f)) stands same at unready =
    refused_as m k (record { editor = editor; edit = e }) (step (replay k) e) rule f
    (ap (λ (n : ℕ). answer_of n (step (replay k) e)) (sym (at ∙ ap length same)) ∙ ap (λ (S : Drawing). answer_of front (step S e)) (sym (drawing_is rows h stands ∙ ap replay same)) ∙ unready)

-- ---- an entry that is ready
pub readied_on : (b : Boarded) (k : ℕ) (e : Edit) (x : Entry) (us ws : List RowWrite) (ids js : List Element) (frame : List ℕ) (bytes size : ℕ)
    → IsTrue (is_legal b.bounds.max_id b.bounds.max_journal b.history) → IsTrue (is_spelled (record { editor = k; edit = e })) → IsPlanFor (replay b.history) e us ids
    → x ≡ record { editor = k; edit = e } → ws ≡ us → js ≡ ids → frame ≡ frame_bytes (record { editor = k; edit = e })
    → bytes ≡ journal_length b.history → size ≡ length frame → list_any (adds_beyond b.bounds.max_id) us ≡ false → bytes + size ≤ b.bounds.max_journal
    → IsReadied b x ws js frame
readied_on b k e x us ws ids js frame bytes size legal spelled planned entry writes named framed long sized any fits =
    let y : Entry = record { editor = k; edit = e } in
    let h : IsPlanned b.bounds b.history y us ids = record { legal = legal; planned = planned } in
    let within = within_on b.bounds b.history y us ids h any in
    let fits' : IsTrue (nat_le (journal_length (b.history ++ y ∷ [])) b.bounds.max_journal) = le-leb _ _ (omega (arith, fits, long_with b.bounds b.history y us ids h bytes size frame long framed sized)) in
    let first : IsReadied b y us ids frame = record {
      spelled = spelled;
      framed = framed;
      planned = planned;
      within = within;
      fits = fits';
      legal = legal-push b.bounds b.history y legal (entry_is y spelled) (ap is_ok planned.accepted) within fits';
    } in
    subst (λ (z : Entry). IsReadied b z ws js frame) (sym entry)
    (subst (λ (vs : List RowWrite). IsReadied b y vs js frame) (sym writes) (subst (λ (is : List Element). IsReadied b y us is frame) (sym named) first))

-- ---- the board with an entry more
module _ (b : Boarded) (rows : Tables) (x : Entry) (ws : List RowWrite) (ids : List Element) (frame : List ℕ) (bytes size : ℕ) (is : IsBoard rows b.history b.bounds bytes) (ready : IsReadied b x ws ids frame) (sized : size ≡ length frame) where
  pub bytes_fit : bytes + size ≤ b.bounds.max_journal
  bytes_fit = let within = leb-true _ _ ready.fits in omega (arith, within, is.long, sized, ap length ready.framed, frame_length x, journal_more b.history x)

  pub board_more : (made : Tables) (entries : List Entry) → made ≡ all_written rows.next_ids rows ws → entries ≡ b.history ++ x ∷ [] → IsBoard made entries b.bounds (bytes + size)
  board_more made entries writes pushed =
      let planned = ready.planned in
      let on_drawing : made ≡ tables_of planned.done.drawing = writes ∙ ap (λ (t : Tables). all_written t.next_ids t ws) is.stands ∙ planned.tables in
      subst (λ (h : List Entry). IsBoard made h b.bounds (bytes + size)) (sym pushed) (record {
        stands = on_drawing ∙ ap tables_of (sym (also_after b.bounds b.history x planned.done planned.accepted));
        legal = ready.legal;
        long = omega (arith, is.long, sized, ap length ready.framed, frame_length x, journal_more b.history x);
        spelled = all-append is_spelled b.history (x ∷ []) is.spelled (and-true (is_spelled x) ∙ ready.spelled);
      })

-- ---- the same board, seen from outside
pub board_at : (v b : Boarded) (rows : Tables) (bytes : ℕ) → v ≡ b → IsBoard rows v.history v.bounds bytes → IsBoard rows b.history b.bounds bytes
board_at v b rows bytes same is = subst (λ (w : Boarded). IsBoard rows w.history w.bounds bytes) same is

pub any_on : (v b : Boarded) (given made slice : List RowWrite) (any : Bool) → v ≡ b → made ≡ given → slice ≡ made → any ≡ list_any (adds_beyond v.bounds.max_id) slice → list_any (adds_beyond b.bounds.max_id) given ≡ any
any_on v b given made slice any same writes sliced is =
    ap (λ (w : Boarded). list_any (adds_beyond w.bounds.max_id) given) (sym same) ∙ ap (list_any (adds_beyond v.bounds.max_id)) (sym (sliced ∙ writes)) ∙ sym is
