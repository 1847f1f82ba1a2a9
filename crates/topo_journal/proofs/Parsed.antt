-- What bytes that stand for a history begin with.
use Rattle.std.proofs.Common.{◌≡◌, ◌≢◌, ◌<◌, ◌⊎◌, inl, inr, ⊎_elim, ℕ, zero, suc, ◌+◌, ◌*◌, ◌/◌, ◌%◌, Bool, true, false, List, [], ◌∷◌, ◌++◌, length, take, drop, slice_index, refl, sym, ◌∙◌, ap, subst, arith, append_assoc, length-append, length-take, length-drop, take-append-drop, nat_lt, nat_le, not, ◌&&◌, ◌==◌, if◌then◌else◌}
use Rattle.std.proofs.lemmas.Bool.{cases_eq, ltb-true}
use Rattle.std.proofs.lemmas.Bool.Decides.{nat_tests}
use Rattle.std.proofs.lemmas.List.{append-nil, take_at, get_or-drop}
use Rattle.topo_journal.specs.Bytes.{Legal, Follow, AreLegal, Stands, number, size_bytes, frame, frames, Reading, History, Bad, read_gates, read, opening, are_letters}
use Rattle.topo_journal.specs.Kept.{AreBytes, gate_behind, CanBeAdopted}
use Rattle.topo_journal.proofs.Reading.{closed_gate}
use Rattle.topo_journal.proofs.Fronts.{front_from}
use Rattle.topo_journal.proofs.Steps.{closed_at}

pub bytes-number : (a b c d : ℕ) → b < 256 → c < 256 → d < 256 → size_bytes (number a b c d) ≡ a ∷ b ∷ c ∷ d ∷ []
bytes-number a b c d lb lc ld =
    let n = number a b c d in
    let last : n % 256 ≡ d = omega arith in
    let up : n / 256 ≡ (a * 256 + b) * 256 + c = omega arith in
    let third : n / 256 % 256 ≡ c = omega arith in
    let up2 : n / 256 / 256 ≡ a * 256 + b = omega arith in
    let second : n / 256 / 256 % 256 ≡ b = omega arith in
    let first : n / 256 / 256 / 256 ≡ a = omega arith in
    rw (first, second, third, last) refl

record Parsed (legal : Legal) (before : List (List ℕ)) (bytes : List ℕ) (bodies : List (List ℕ)) : Type 0 where
  pub more : List (List ℕ)
  pub gate : ℕ
  pub rest : List ℕ
  pub all : bodies ≡ before ++ more
  pub whole : bytes ≡ frames more ++ gate ∷ rest
  pub shut : gate ≢ 1
  pub follow : Follow legal before more

one_more : (legal : Legal) (before : List (List ℕ)) (g a b c d : ℕ) (rest : List ℕ) (bodies : List (List ℕ)) → g ≡ 1 → b < 256 → c < 256 → d < 256
    → number a b c d < length rest → legal before (take (number a b c d) rest) ≡ true
    → Parsed legal (before ++ take (number a b c d) rest ∷ []) (drop (number a b c d) rest) bodies → Parsed legal before (g ∷ a ∷ b ∷ c ∷ d ∷ rest) bodies
one_more legal before g a b c d rest bodies one lb lc ld fits may parsed =
    let n = number a b c d in let body = take n rest in
    let size : length body ≡ n = omega (arith, length-take n rest, fits) in
    let spelled : size_bytes (length body) ≡ a ∷ b ∷ c ∷ d ∷ [] = ap size_bytes size ∙ bytes-number a b c d lb lc ld in
    let split : rest ≡ body ++ (frames parsed.more ++ parsed.gate ∷ parsed.rest) = sym (take-append-drop n rest) ∙ ap (λ (l : List ℕ). body ++ l) parsed.whole in
    record {
      more = body ∷ parsed.more;
      gate = parsed.gate;
      rest = parsed.rest;
      all = parsed.all ∙ append_assoc before (body ∷ []) parsed.more;
      whole = ap (λ (m : ℕ). m ∷ a ∷ b ∷ c ∷ d ∷ rest) one ∙ ap (λ (l : List ℕ). 1 ∷ a ∷ b ∷ c ∷ d ∷ l) split
          ∙ ap (λ (l : List ℕ). 1 ∷ (l ++ (body ++ (frames parsed.more ++ parsed.gate ∷ parsed.rest)))) (sym spelled)
          ∙ ap (λ (l : List ℕ). 1 ∷ l) (sym (append_assoc (size_bytes (length body)) body (frames parsed.more ++ parsed.gate ∷ parsed.rest)))
          ∙ ap (λ (l : List ℕ). 1 ∷ l) (sym (append_assoc (frame body) (frames parsed.more) (parsed.gate ∷ parsed.rest)));
      shut = parsed.shut;
      follow = (may, parsed.follow);
    }

no_more : (legal : Legal) (before : List (List ℕ)) (g : ℕ) (rest : List ℕ) (bodies : List (List ℕ)) → g ≢ 1 → History before ≡ History bodies → Parsed legal before (g ∷ rest) bodies
no_more legal before g rest bodies shut is =
    let same : before ≡ bodies = cc is in
    record { more = []; gate = g; rest = rest; all = sym same ∙ sym (append-nil before); whole = refl; shut = shut; follow = tt }

pick : (g : ℕ) (s t : Bool) (X B H : Reading) → g ≡ 1
    → ((s ≡ true) × (t ≡ true) × ((if g == 1 then (if s && t then X else B) else H) ≡ X)) ⊎ ((if g == 1 then (if s && t then X else B) else H) ≡ B)
pick g true true X B H one = inl (refl, refl, grind (arith, nat_tests))
pick g true false X B H one = inr (grind (arith, nat_tests))
pick g false t X B H one = inr (grind (arith, nat_tests))

open_or_bad : (legal : Legal) (steps : ℕ) (before : List (List ℕ)) (p g a b c d : ℕ) (rest : List ℕ) → g ≡ 1
    → ((number a b c d < length rest) × (legal before (take (number a b c d) rest) ≡ true)
    × (read_gates legal (suc steps) before p (g ∷ a ∷ b ∷ c ∷ d ∷ rest) ≡ read_gates legal steps (before ++ take (number a b c d) rest ∷ []) (p + 5 + number a b c d) (drop (number a b c d) rest)))
    ⊎ (read_gates legal (suc steps) before p (g ∷ a ∷ b ∷ c ∷ d ∷ rest) ≡ Bad p)
unfolding read_gates
open_or_bad legal steps before p g a b c d rest one =
    let n = number a b c d in
    ⊎_elim (λ w. inl (ltb-true n (length rest) w.0, w.1, w.2)) (λ w. inr w)
    (pick g (nat_lt n (length rest)) (legal before (take n rest)) (read_gates legal steps (before ++ take n rest ∷ []) (p + 5 + n) (drop n rest)) (Bad p) (History before) one)

pub short_bad : (legal : Legal) (steps : ℕ) (before : List (List ℕ)) (p g : ℕ) (rest : List ℕ) → g ≡ 1 → length rest < 4 → read_gates legal (suc steps) before p (g ∷ rest) ≡ Bad p
unfolding read_gates
short_bad legal steps before p g [] one short = grind (arith, nat_tests)
short_bad legal steps before p g (a ∷ []) one short = grind (arith, nat_tests)
short_bad legal steps before p g (a ∷ b ∷ []) one short = grind (arith, nat_tests)
short_bad legal steps before p g (a ∷ b ∷ c ∷ []) one short = grind (arith, nat_tests)
short_bad legal steps before p g (a ∷ b ∷ c ∷ d ∷ rest) one short = absurd (omega arith)

pub tail_bytes : (n : ℕ) (bytes : List ℕ) → AreBytes bytes → AreBytes (drop n bytes)
tail_bytes n bytes are k below = let in_range : n + k < length bytes = omega (arith, below, length-drop n bytes) in subst (λ (m : ℕ). m < 256) (sym (get_or-drop n bytes k 0)) (are (n + k) in_range)

pub bad_zero : (legal : Legal) (before : List (List ℕ)) (p : ℕ) (bytes : List ℕ) → read_gates legal zero before p bytes ≡ Bad p
unfolding read_gates
bad_zero legal before p bytes = refl

pub bad_none : (legal : Legal) (steps : ℕ) (before : List (List ℕ)) (p : ℕ) → read_gates legal (suc steps) before p [] ≡ Bad p
unfolding read_gates
bad_none legal steps before p = refl

few : (legal : Legal) (steps : ℕ) (before : List (List ℕ)) (p g : ℕ) (rest : List ℕ) (bodies : List (List ℕ)) → length rest < 4
    → read_gates legal (suc steps) before p (g ∷ rest) ≡ History bodies → Parsed legal before (g ∷ rest) bodies
few legal steps before p g rest bodies short is = elim (cases_eq g 1) [
  | inl one ↦ absurd (cc (short_bad legal steps before p g rest one short, is))
  | inr shut ↦ no_more legal before g rest bodies shut (sym (closed_gate legal steps before p g rest shut) ∙ is)
]

parsed : (legal : Legal) (steps : ℕ) (before : List (List ℕ)) (p : ℕ) (bytes : List ℕ) (bodies : List (List ℕ)) → AreBytes bytes
    → read_gates legal steps before p bytes ≡ History bodies → Parsed legal before bytes bodies
parsed legal zero before p bytes bodies are is = absurd (cc (bad_zero legal before p bytes, is))
parsed legal (suc steps) before p [] bodies are is = absurd (cc (bad_none legal steps before p, is))
parsed legal (suc steps) before p (g ∷ []) bodies are is = few legal steps before p g [] bodies (omega arith) is
parsed legal (suc steps) before p (g ∷ a ∷ []) bodies are is = few legal steps before p g (a ∷ []) bodies (omega arith) is
parsed legal (suc steps) before p (g ∷ a ∷ b ∷ []) bodies are is = few legal steps before p g (a ∷ b ∷ []) bodies (omega arith) is
parsed legal (suc steps) before p (g ∷ a ∷ b ∷ c ∷ []) bodies are is = few legal steps before p g (a ∷ b ∷ c ∷ []) bodies (omega arith) is
parsed legal (suc steps) before p (g ∷ a ∷ b ∷ c ∷ d ∷ rest) bodies are is = elim (cases_eq g 1) [
  | inl one ↦ ⊎_elim
      (λ w. one_more legal before g a b c d rest bodies one (are 2 (omega arith)) (are 3 (omega arith)) (are 4 (omega arith)) w.0 w.1
      (parsed legal steps (before ++ take (number a b c d) rest ∷ []) (p + 5 + number a b c d) (drop (number a b c d) rest) bodies
      (tail_bytes (number a b c d) rest (tail_bytes 5 (g ∷ a ∷ b ∷ c ∷ d ∷ rest) are)) (sym w.2 ∙ is)))
      (λ w. absurd (cc (w, is))) (open_or_bad legal steps before p g a b c d rest one)
  | inr shut ↦ no_more legal before g (a ∷ b ∷ c ∷ d ∷ rest) bodies shut (sym (closed_gate legal steps before p g (a ∷ b ∷ c ∷ d ∷ rest) shut) ∙ is)
]

pick_name : (h : ℕ) (t : Bool) (X B H : Reading) → h ≡ 1
    → ((t ≡ true) × ((if h == 1 then (if t then X else B) else H) ≡ X)) ⊎ ((if h == 1 then (if t then X else B) else H) ≡ B)
pick_name h true X B H one = inl (refl, grind (arith, nat_tests))
pick_name h false X B H one = inr (grind (arith, nat_tests))

pub named : (a b c d e f : ℕ) → (are_letters a b c d e && not (f == 2)) ≡ true → (a ≡ 84) × (b ≡ 79) × (c ≡ 80) × (d ≡ 79) × (e ≡ 74) × (f ≢ 2)
named a b c d e f t = (grind (arith, nat_tests), grind (arith, nat_tests), grind (arith, nat_tests), grind (arith, nat_tests), grind (arith, nat_tests), λ two. grind (arith, nat_tests))

record Headed (legal : Legal) (bytes : List ℕ) (bodies : List (List ℕ)) : Type 0 where
  pub format : ℕ
  pub gates : List ℕ
  pub other : format ≢ 2
  pub whole : bytes ≡ opening format ++ gates
  pub reads : read_gates legal (length gates) [] 7 gates ≡ History bodies

pub short_header : (legal : Legal) (h a : ℕ) (rest : List ℕ) → h ≡ 1 → length rest < 6 → read legal (h ∷ a ∷ rest) ≡ Bad 0
unfolding read
short_header legal h a [] one short = grind (arith, nat_tests)
short_header legal h a (b ∷ []) one short = grind (arith, nat_tests)
short_header legal h a (b ∷ c ∷ []) one short = grind (arith, nat_tests)
short_header legal h a (b ∷ c ∷ d ∷ []) one short = grind (arith, nat_tests)
short_header legal h a (b ∷ c ∷ d ∷ e ∷ []) one short = grind (arith, nat_tests)
short_header legal h a (b ∷ c ∷ d ∷ e ∷ f ∷ []) one short = grind (arith, nat_tests)
short_header legal h a (b ∷ c ∷ d ∷ e ∷ f ∷ g ∷ rest) one short = absurd (omega arith)

name_or_bad : (legal : Legal) (h a b c d e f g : ℕ) (rest : List ℕ) → h ≡ 1
    → (((are_letters a b c d e && not (f == 2)) ≡ true) × (read legal (h ∷ a ∷ b ∷ c ∷ d ∷ e ∷ f ∷ g ∷ rest) ≡ read_gates legal (suc (length rest)) [] 7 (g ∷ rest)))
    ⊎ (read legal (h ∷ a ∷ b ∷ c ∷ d ∷ e ∷ f ∷ g ∷ rest) ≡ Bad 0)
unfolding read
name_or_bad legal h a b c d e f g rest one = pick_name h (are_letters a b c d e && not (f == 2)) (read_gates legal (suc (length rest)) [] 7 (g ∷ rest)) (Bad 0) (if nat_le (length rest) 0 then History [] else Bad 0) one

long_header : (legal : Legal) (h a b c d e f g : ℕ) (rest : List ℕ) (bodies : List (List ℕ)) → h ≡ 1 → read legal (h ∷ a ∷ b ∷ c ∷ d ∷ e ∷ f ∷ g ∷ rest) ≡ History bodies
    → Headed legal (h ∷ a ∷ b ∷ c ∷ d ∷ e ∷ f ∷ g ∷ rest) bodies
long_header legal h a b c d e f g rest bodies one is = ⊎_elim
    (λ w. let n = named a b c d e f w.0 in record {
      format = f;
      gates = g ∷ rest;
      other = n.5;
      whole = rw (one, n.0, n.1, n.2, n.3, n.4) refl;
      reads = sym w.1 ∙ is;
    })
    (λ w. absurd (cc (w, is))) (name_or_bad legal h a b c d e f g rest one)

headed : (legal : Legal) (bytes : List ℕ) (bodies : List (List ℕ)) → 1 < length bytes → slice_index bytes 0 ≡ 1 → read legal bytes ≡ History bodies → Headed legal bytes bodies
headed legal [] bodies long one is = absurd (omega arith)
headed legal (h ∷ []) bodies long one is = absurd (omega arith)
headed legal (h ∷ a ∷ []) bodies long one is = absurd (cc (short_header legal h a [] one (omega arith), is))
headed legal (h ∷ a ∷ b ∷ []) bodies long one is = absurd (cc (short_header legal h a (b ∷ []) one (omega arith), is))
headed legal (h ∷ a ∷ b ∷ c ∷ []) bodies long one is = absurd (cc (short_header legal h a (b ∷ c ∷ []) one (omega arith), is))
headed legal (h ∷ a ∷ b ∷ c ∷ d ∷ []) bodies long one is = absurd (cc (short_header legal h a (b ∷ c ∷ d ∷ []) one (omega arith), is))
headed legal (h ∷ a ∷ b ∷ c ∷ d ∷ e ∷ []) bodies long one is = absurd (cc (short_header legal h a (b ∷ c ∷ d ∷ e ∷ []) one (omega arith), is))
headed legal (h ∷ a ∷ b ∷ c ∷ d ∷ e ∷ f ∷ []) bodies long one is = absurd (cc (short_header legal h a (b ∷ c ∷ d ∷ e ∷ f ∷ []) one (omega arith), is))
headed legal (h ∷ a ∷ b ∷ c ∷ d ∷ e ∷ f ∷ g ∷ rest) bodies long one is = long_header legal h a b c d e f g rest bodies one is

pub adoptable : (legal : Legal) (bytes : List ℕ) (bodies : List (List ℕ)) → AreBytes bytes → 1 < length bytes → slice_index bytes 0 ≡ 1 → Stands legal bytes bodies → CanBeAdopted legal bytes bodies
adoptable legal bytes bodies are long one is =
    let head = headed legal bytes bodies long one is in
    let gates_are : AreBytes head.gates = subst AreBytes (ap (drop 7) head.whole) (tail_bytes 7 bytes are) in
    let found = parsed legal (length head.gates) [] 7 head.gates bodies gates_are head.reads in
    let front = opening head.format ++ frames bodies in
    let whole : bytes ≡ front ++ found.gate ∷ found.rest =
    head.whole ∙ ap (λ (l : List ℕ). opening head.format ++ l) found.whole ∙ ap (λ bs. opening head.format ++ (frames bs ++ found.gate ∷ found.rest)) (sym found.all)
    ∙ sym (append_assoc (opening head.format) (frames bodies) (found.gate ∷ found.rest)) in
    let size : length front ≡ gate_behind bodies = omega (arith, length-append (opening head.format) (frames bodies)) in
    let begins : take (gate_behind bodies) bytes ≡ front = ap (take (gate_behind bodies)) whole ∙ take_at front (found.gate ∷ found.rest) (gate_behind bodies) size in
    let its_front = front_from (take (gate_behind bodies) bytes) head.format bodies head.other begins in (
      its_front.0,
      closed_at (take (gate_behind bodies) bytes) bytes found.gate found.rest found.shut (whole ∙ ap (λ (l : List ℕ). l ++ found.gate ∷ found.rest) (sym begins)),
      its_front.1,
      subst (AreLegal legal) (sym found.all) found.follow,
    )
