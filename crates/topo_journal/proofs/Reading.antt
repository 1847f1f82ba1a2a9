-- What gates and headers read as.
use Rattle.std.proofs.Common.{◌≡◌, ◌≢◌, ◌<◌, ◌≤◌, ℕ, zero, suc, ◌+◌, ◌/◌, ◌%◌, true, List, [], ◌∷◌, ◌++◌, length, take, drop, refl, sym, ◌∙◌, ap, arith, append_assoc, length-append, if◌then◌else◌, ◌&&◌, nat_lt}
use Rattle.std.proofs.lemmas.Bool.{lt-ltb}
use Rattle.std.proofs.lemmas.Bool.Decides.{nat_tests}
use Rattle.std.proofs.lemmas.List.{append-nil, take_at, drop_at}
use Rattle.topo_journal.specs.Bytes.{Legal, Follow, AreLegal, number, frame, frames, History, Bad, read_gates, read, opening}

pub number-bytes : (n : ℕ) → number (n / 256 / 256 / 256) (n / 256 / 256 % 256) (n / 256 % 256) (n % 256) ≡ n
number-bytes n = omega arith

module _ (legal : Legal) (steps : ℕ) (before : List (List ℕ)) (p : ℕ) where
  -- a whole frame behind an open gate, and something behind it
  whole : (body rest : List ℕ) (n : ℕ) → n ≡ length body → legal before body ≡ true → 0 < length rest
      → (if nat_lt n (length (body ++ rest)) && legal before (take n (body ++ rest))
      then read_gates legal steps (before ++ take n (body ++ rest) ∷ []) (p + 5 + n) (drop n (body ++ rest))
      else Bad p)
      ≡ read_gates legal steps (before ++ body ∷ []) (p + 5 + length body) rest
  whole body rest n is may more =
      let front : take n (body ++ rest) ≡ body = take_at body rest n (sym is) in
      let back : drop n (body ++ rest) ≡ rest = drop_at body rest n (sym is) in
      let fits : nat_lt n (length (body ++ rest)) ≡ true = lt-ltb n (length (body ++ rest)) (omega (arith, length-append body rest)) in
      rw (fits, front, back, may, is) refl

  pub open_gate : (body rest : List ℕ) → legal before body ≡ true → 0 < length rest
      → read_gates legal (suc steps) before p (1 ∷ (frame body ++ rest)) ≡ read_gates legal steps (before ++ body ∷ []) (p + 5 + length body) rest
  unfolding read_gates
  open_gate body rest may more =
      let n = length body in
      whole body rest (number (n / 256 / 256 / 256) (n / 256 / 256 % 256) (n / 256 % 256) (n % 256)) (number-bytes n) may more

  pub closed_gate : (gate : ℕ) (rest : List ℕ) → gate ≢ 1 → read_gates legal (suc steps) before p (gate ∷ rest) ≡ History before
  unfolding read_gates
  closed_gate gate [] shut = grind (arith, nat_tests)
  closed_gate gate (a ∷ []) shut = grind (arith, nat_tests)
  closed_gate gate (a ∷ b ∷ []) shut = grind (arith, nat_tests)
  closed_gate gate (a ∷ b ∷ c ∷ []) shut = grind (arith, nat_tests)
  closed_gate gate (a ∷ b ∷ c ∷ d ∷ rest) shut = grind (arith, nat_tests)

length-frames : (bodies : List (List ℕ)) → length bodies ≤ length (frames bodies)
length-frames [] = omega arith
length-frames (body ∷ bodies) = omega (arith, length-frames bodies, length-append (frame body) (frames bodies))

-- after whole frames a closed gate ends them, whatever stands behind it
closed_after : (legal : Legal) (bodies before : List (List ℕ)) (p steps gate : ℕ) (rest : List ℕ) → gate ≢ 1 → Follow legal before bodies → length bodies < steps
    → read_gates legal steps before p (frames bodies ++ gate ∷ rest) ≡ History (before ++ bodies)
closed_after legal bodies before p zero gate rest shut follow few = absurd (omega arith)
closed_after legal [] before p (suc steps) gate rest shut follow few = closed_gate legal steps before p gate rest shut ∙ ap History (sym (append-nil before))
closed_after legal (body ∷ bodies) before p (suc steps) gate rest shut follow few =
    let end = frames bodies ++ gate ∷ rest in
    ap (λ (l : List ℕ). read_gates legal (suc steps) before p (1 ∷ l)) (append_assoc (frame body) (frames bodies) (gate ∷ rest))
    ∙ open_gate legal steps before p body end follow.0 (omega (arith, length-append (frames bodies) (gate ∷ rest)))
    ∙ closed_after legal bodies (before ++ body ∷ []) (p + 5 + length body) steps gate rest shut follow.1 (omega arith)
    ∙ ap History (append_assoc before (body ∷ []) bodies)

pub behind_header : (legal : Legal) (format : ℕ) (bytes : List ℕ) → format ≢ 2 → 0 < length bytes → read legal (opening format ++ bytes) ≡ read_gates legal (length bytes) [] 7 bytes
unfolding read
behind_header legal format [] other more = absurd (omega arith)
behind_header legal format (gate ∷ rest) other more = grind (arith, nat_tests)

pub stands_closed : (legal : Legal) (format : ℕ) (bodies : List (List ℕ)) (gate : ℕ) (rest : List ℕ) → format ≢ 2 → gate ≢ 1 → AreLegal legal bodies
    → read legal ((opening format ++ frames bodies) ++ gate ∷ rest) ≡ History bodies
stands_closed legal format bodies gate rest other shut are =
    let more : 0 < length (frames bodies ++ gate ∷ rest) = omega (arith, length-append (frames bodies) (gate ∷ rest)) in
    ap (read legal) (append_assoc (opening format) (frames bodies) (gate ∷ rest))
    ∙ behind_header legal format (frames bodies ++ gate ∷ rest) other more
    ∙ closed_after legal bodies [] 7 (length (frames bodies ++ gate ∷ rest)) gate rest shut are (omega (arith, length-append (frames bodies) (gate ∷ rest), length-frames bodies))

pub frames-push : (bodies : List (List ℕ)) (body : List ℕ) → frames (bodies ++ body ∷ []) ≡ frames bodies ++ 1 ∷ frame body
frames-push [] body = ap (λ (l : List ℕ). 1 ∷ l) (append-nil (frame body))
frames-push (first ∷ bodies) body = ap (λ (l : List ℕ). 1 ∷ (frame first ++ l)) (frames-push bodies body) ∙ ap (λ (l : List ℕ). 1 ∷ l) (sym (append_assoc (frame first) (frames bodies) (1 ∷ frame body)))

pub follow_front : (legal : Legal) (before bodies : List (List ℕ)) (body : List ℕ) → Follow legal before (bodies ++ body ∷ []) → Follow legal before bodies
follow_front legal before [] body follow = tt
follow_front legal before (first ∷ bodies) body follow = (follow.0, follow_front legal (before ++ first ∷ []) bodies body follow.1)

pub always_follow : (before bodies : List (List ℕ)) → Follow (λ _ _. true) before bodies
always_follow before [] = tt
always_follow before (body ∷ bodies) = (refl, always_follow (before ++ body ∷ []) bodies)
