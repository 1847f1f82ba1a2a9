-- What a header says of the bytes behind it.
use Rattle.std.proofs.Common.{◌≡◌, ◌≢◌, ◌<◌, ◌≤◌, inl, inr, ⊎_elim, ℕ, true, false, List, [], ◌∷◌, ◌++◌, ◌==◌, length, take, drop, slice_index, codes, refl, sym, ◌∙◌, ap, subst, arith}
use Rattle.std.proofs.lemmas.Bool.{true≢false}
use Rattle.std.proofs.lemmas.Bool.Decides.{nat_tests}
use Rattle.history_model.specs.Answers.{Bounds}
use Rattle.history_model.specs.Journal.{IsHeaded, IsNoJournalYet, IsBadAt}
use Rattle.topo_journal.specs.Bytes.{opening}
use Rattle.topo_journal.specs.Plain.{has_name}
use Rattle.topo_journal.proofs.EntryJournals.{head_long, head_named, laid, open_yet}
use Rattle.topo_journal.proofs.Parsed.{named}
use Rattle.topo_journal.proofs.Headers.{eight}
use Rattle.topo_recover.specs.Reached.{IsReadTo}

-- ---- not yet a journal
pub shut_yet : (bytes : List ℕ) → 1 < length bytes → length bytes ≤ 8 → slice_index bytes 0 ≢ 1 → IsNoJournalYet bytes
shut_yet [] long few shut = absurd (omega arith)
shut_yet (b ∷ bytes) long few shut = inr (few, shut)

-- ---- neither
pub headed_not_yet : (bytes rest : List ℕ) → IsHeaded bytes rest → rest ≢ [] → IsNoJournalYet bytes → ⊥
headed_not_yet bytes rest head other yet =
    let long = head_long bytes rest head other in
    open_yet bytes (omega (arith, long)) (ap (λ (l : List ℕ). slice_index l 0) head.laid) yet

pub bad_shut : (m : Bounds) (bytes : List ℕ) → 8 < length bytes → slice_index bytes 0 ≢ 1 → IsBadAt m bytes 0
bad_shut m bytes many shut = inl (
  (⊎_elim (λ short. absurd (omega arith)) (λ w. absurd (omega (arith, w.0, many)))),
  refl,
  (λ rest head other. shut (ap (λ (l : List ℕ). slice_index l 0) head.laid)),
)

pub bad_short : (m : Bounds) (bytes : List ℕ) → 1 < length bytes → length bytes < 8 → slice_index bytes 0 ≡ 1 → IsBadAt m bytes 0
bad_short m bytes long few one = inl (open_yet bytes long one, refl, λ rest head other. absurd (omega (arith, few, head_long bytes rest head other)))

pub bad_name : (m : Bounds) (bytes : List ℕ) → 7 < length bytes → slice_index bytes 0 ≡ 1 → has_name bytes ≡ false → IsBadAt m bytes 0
bad_name m bytes long one name = inl (open_yet bytes (omega (arith, long)) one, refl, λ rest head other. true≢false (sym (head_named bytes rest head) ∙ name))

-- ---- a journal
seven : (h a b c d e f : ℕ) → h ≡ 1 → a ≡ 84 → b ≡ 79 → c ≡ 80 → d ≡ 79 → e ≡ 74 → h ∷ a ∷ b ∷ c ∷ d ∷ e ∷ f ∷ [] ≡ opening f
seven h a b c d e f h1 a1 b1 c1 d1 e1 = rw (h1, a1, b1, c1, d1, e1) refl

-- the six bytes behind the header gate are the name
pub name_read : (bytes : List ℕ) → 7 < length bytes → has_name (0 ∷ take 6 (drop 1 bytes)) ≡ has_name bytes
name_read bytes long = let v = eight bytes long in subst (λ (l : List ℕ). has_name (0 ∷ take 6 (drop 1 l)) ≡ has_name l) (sym v.is) refl

pub read_first : (m : Bounds) (bytes : List ℕ) → 7 < length bytes → slice_index bytes 0 ≡ 1 → has_name bytes ≡ true → IsReadTo m bytes 7 []
read_first m bytes long one name =
    let v = eight bytes long in
    let n = named v.a v.b v.c v.d v.e v.f (sym (ap has_name v.is) ∙ name) in
    let opens : v.h ≡ 1 = sym (ap (λ (l : List ℕ). slice_index l 0) v.is) ∙ one in
    let its_format : slice_index bytes 6 ≡ v.f = ap (λ (l : List ℕ). slice_index l 6) v.is in
    let behind : v.g ∷ v.rest ≡ drop 7 bytes = sym (ap (drop 7) v.is) in
    let head : IsHeaded bytes (v.g ∷ v.rest) =
    record { format = v.f; laid = v.is ∙ laid v.h v.a v.b v.c v.d v.e v.f v.g v.rest opens n.0 n.1 n.2 n.3 n.4; not_later = n.5 } in
    let headed : IsHeaded bytes (drop 7 bytes) = subst (IsHeaded bytes) behind head in
    let some : drop 7 bytes ≢ [] = λ none. absurd (omega (arith, ap length (behind ∙ none))) in
    record {
      format = λ later. n.5 (sym its_format ∙ later);
      front = ap (take 7) v.is ∙ seven v.h v.a v.b v.c v.d v.e v.f opens n.0 n.1 n.2 n.3 n.4 ∙ ap opening (sym its_format);
      stands = λ xs entries. inr (drop 7 bytes, (headed, entries));
      bad = λ xs offset bad. inr (drop 7 bytes, (headed, some, (xs, bad)));
    }

pub is_one : (b : ℕ) → (b == 1) ≡ true → b ≡ 1
is_one b e = grind (arith, nat_tests)
