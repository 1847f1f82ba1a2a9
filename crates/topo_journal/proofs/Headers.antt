-- What headers read as.
use Rattle.std.proofs.Common.{◌≡◌, ◌≢◌, ◌<◌, ◌≤◌, ℕ, suc, true, false, List, [], ◌∷◌, length, drop, slice_index, refl, sym, ◌∙◌, ap, arith}
use Rattle.std.proofs.lemmas.Bool.Decides.{nat_tests}
use Rattle.topo_journal.specs.Bytes.{Legal, is_not_yet, read_gates, read, Bad}
use Rattle.topo_journal.specs.Plain.{has_name}
use Rattle.topo_journal.proofs.Parsed.{short_header}

-- eight bytes and more
pub record Eight (bytes : List ℕ) : Type 0 where
  pub h : ℕ
  pub a : ℕ
  pub b : ℕ
  pub c : ℕ
  pub d : ℕ
  pub e : ℕ
  pub f : ℕ
  pub g : ℕ
  pub rest : List ℕ
  pub is : bytes ≡ h ∷ a ∷ b ∷ c ∷ d ∷ e ∷ f ∷ g ∷ rest

pub eight : (bytes : List ℕ) → 7 < length bytes → Eight bytes
eight [] long = absurd (omega arith)
eight (h ∷ []) long = absurd (omega arith)
eight (h ∷ a ∷ []) long = absurd (omega arith)
eight (h ∷ a ∷ b ∷ []) long = absurd (omega arith)
eight (h ∷ a ∷ b ∷ c ∷ []) long = absurd (omega arith)
eight (h ∷ a ∷ b ∷ c ∷ d ∷ []) long = absurd (omega arith)
eight (h ∷ a ∷ b ∷ c ∷ d ∷ e ∷ []) long = absurd (omega arith)
eight (h ∷ a ∷ b ∷ c ∷ d ∷ e ∷ f ∷ []) long = absurd (omega arith)
eight (h ∷ a ∷ b ∷ c ∷ d ∷ e ∷ f ∷ g ∷ rest) long = record { h = h; a = a; b = b; c = c; d = d; e = e; f = f; g = g; rest = rest; is = refl }

closed_eight : (legal : Legal) (h a b c d e f g : ℕ) (rest : List ℕ) → h ≢ 1 → 0 < length rest → read legal (h ∷ a ∷ b ∷ c ∷ d ∷ e ∷ f ∷ g ∷ rest) ≡ Bad 0
unfolding read
closed_eight legal h a b c d e f g rest shut more = grind (arith, nat_tests)

pub closed_long : (legal : Legal) (bytes : List ℕ) → 8 < length bytes → slice_index bytes 0 ≢ 1 → read legal bytes ≡ Bad 0
closed_long legal bytes long shut =
    let v = eight bytes (omega arith) in
    let shut' : v.h ≢ 1 = λ e. shut (ap (λ (l : List ℕ). slice_index l 0) v.is ∙ e) in
    ap (read legal) v.is ∙ closed_eight legal v.h v.a v.b v.c v.d v.e v.f v.g v.rest shut' (omega (arith, ap length v.is))

named_eight : (legal : Legal) (h a b c d e f g : ℕ) (rest : List ℕ) → h ≡ 1 → has_name (h ∷ a ∷ b ∷ c ∷ d ∷ e ∷ f ∷ g ∷ rest) ≡ true
    → read legal (h ∷ a ∷ b ∷ c ∷ d ∷ e ∷ f ∷ g ∷ rest) ≡ read_gates legal (suc (length rest)) [] 7 (g ∷ rest)
unfolding read
named_eight legal h a b c d e f g rest one name = rw (one, name) refl

unnamed_eight : (legal : Legal) (h a b c d e f g : ℕ) (rest : List ℕ) → h ≡ 1 → has_name (h ∷ a ∷ b ∷ c ∷ d ∷ e ∷ f ∷ g ∷ rest) ≡ false
    → read legal (h ∷ a ∷ b ∷ c ∷ d ∷ e ∷ f ∷ g ∷ rest) ≡ Bad 0
unfolding read
unnamed_eight legal h a b c d e f g rest one name = rw (one, name) refl

pub open_named : (legal : Legal) (bytes : List ℕ) → 7 < length bytes → slice_index bytes 0 ≡ 1 → has_name bytes ≡ true
    → read legal bytes ≡ read_gates legal (length (drop 7 bytes)) [] 7 (drop 7 bytes)
open_named legal bytes long one name =
    let v = eight bytes long in
    let opens : v.h ≡ 1 = sym (ap (λ (l : List ℕ). slice_index l 0) v.is) ∙ one in
    ap (read legal) v.is ∙ named_eight legal v.h v.a v.b v.c v.d v.e v.f v.g v.rest opens (sym (ap has_name v.is) ∙ name)
    ∙ ap (λ (l : List ℕ). read_gates legal (length (drop 7 l)) [] 7 (drop 7 l)) (sym v.is)

pub open_unnamed : (legal : Legal) (bytes : List ℕ) → 7 < length bytes → slice_index bytes 0 ≡ 1 → has_name bytes ≡ false → read legal bytes ≡ Bad 0
open_unnamed legal bytes long one name =
    let v = eight bytes long in
    let opens : v.h ≡ 1 = sym (ap (λ (l : List ℕ). slice_index l 0) v.is) ∙ one in
    ap (read legal) v.is ∙ unnamed_eight legal v.h v.a v.b v.c v.d v.e v.f v.g v.rest opens (sym (ap has_name v.is) ∙ name)

pub open_short : (legal : Legal) (bytes : List ℕ) → 2 ≤ length bytes → length bytes < 8 → slice_index bytes 0 ≡ 1 → read legal bytes ≡ Bad 0
open_short legal [] two short one = absurd (omega arith)
open_short legal (h ∷ []) two short one = absurd (omega arith)
open_short legal (h ∷ a ∷ rest) two short one = short_header legal h a rest one (omega arith)

pub closed_not_yet : (bytes : List ℕ) → 2 ≤ length bytes → length bytes ≤ 8 → slice_index bytes 0 ≢ 1 → is_not_yet bytes ≡ true
closed_not_yet [] two few shut = absurd (omega arith)
closed_not_yet (h ∷ []) two few shut = absurd (omega arith)
closed_not_yet (h ∷ a ∷ rest) two few shut = let closed : h ≢ 1 = shut in let short : length rest ≤ 6 = omega arith in grind (arith, nat_tests)
