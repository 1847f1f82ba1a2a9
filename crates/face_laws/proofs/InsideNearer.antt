-- A direction strictly inside a wedge is nearer, clockwise from its begin, than its end.
use Rattle.std.proofs.Common.{◌≡◌, refl, sym, ◌∙◌, ap, ⊎_elim, Bool, true, false, cond, ◌&&◌, ◌||◌}
use Rattle.std.proofs.lemmas.Bool.{and_parts, or_cases, both_ways, false_from_ne_true, eq-eqb}
use Rattle.plane.specs.Direction.{Direction, cross, quarter, nearer_by, is_nearer, same_direction, straight_up, IsNotZero, OneDirection}
use Rattle.plane.proofs.Directions.{nearer_onward, nearer_total, nearer_cyclic, same_out, same_in, one_turned, quarter_of_one}
use Rattle.plane.proofs.Wedges.{apart_nearer, before_before}
use Rattle.parity_laws.specs.Steps.{before}
use Rattle.parity_laws.specs.Ways.{inside}
use Rattle.face_laws.proofs.Mirror.{mirrored, mirrored_some, one_mirrored, before_is, nearer_mirrored}

up_is_some : IsNotZero straight_up
up_is_some e f = cc

from_one : (r u v w : Direction) → OneDirection r u → is_nearer r v w ≡ is_nearer u v w
from_one r u v w one = ap (λ q. nearer_by q (quarter r w) (cross v w)) (quarter_of_one v r u one) ∙ ap (λ q. nearer_by (quarter u v) q (cross v w)) (quarter_of_one w r u one)

apart_turned : (u v : Direction) → IsNotZero u → IsNotZero v → same_direction u v ≡ false → same_direction v u ≡ false
apart_turned u v hu hv e = false_from_ne_true (same_direction v u) (λ h. both_ways (same_direction u v) e (same_in u v (one_turned v u (same_out v u hv hu h))))

-- three in order from r are in order from the first of them
from_first : (r u v w : Direction) → IsNotZero r → IsNotZero u → IsNotZero v → IsNotZero w → is_nearer r u v ≡ true → is_nearer r v w ≡ true → is_nearer u v w ≡ true
from_first r u v w hr hu hv hw a b = by_first (same_direction r u) refl
  where
    by_first : (c : Bool) → same_direction r u ≡ c → is_nearer u v w ≡ true
    by_first true e = sym (from_one r u v w (same_out r u hr hu e)) ∙ b
    by_first false e = nearer_cyclic w u v hw hu (before_before r w u v hr hw hu hv e a b) (apart_turned u w hu hw (apart_nearer r u w hu hw (nearer_onward r u v w a b)))

pub inside_nearer : (u w d : Direction) → IsNotZero u → IsNotZero w → IsNotZero d → (OneDirection u w → ⊥) → inside u w d ≡ true → is_nearer u d w ≡ true
inside_nearer u w d hu hw hd other e =
    nearer_mirrored u w d (λ z. other (same_out u w hu hw (eq-eqb (quarter u w) 0 z))) (by_wedge (before u w) refl e)
  where
    mu : IsNotZero (mirrored u)
    mu = mirrored_some u hu

    mw : IsNotZero (mirrored w)
    mw = mirrored_some w hw

    md : IsNotZero (mirrored d)
    md = mirrored_some d hd

    seen : (a b : Direction) → IsNotZero a → IsNotZero b → before a b ≡ true → is_nearer straight_up (mirrored b) (mirrored a) ≡ true
    seen a b ha hb f = sym (before_is a b ha hb) ∙ f

    -- w comes before u
    turned : before u w ≡ false → is_nearer straight_up (mirrored u) (mirrored w) ≡ true
    turned f = by_test (is_nearer straight_up (mirrored u) (mirrored w)) refl
      where
        by_test : (b : Bool) → is_nearer straight_up (mirrored u) (mirrored w) ≡ b → b ≡ true
        by_test true g = refl
        by_test false g = absurd (other (one_mirrored u w (nearer_total straight_up (mirrored w) (mirrored u) up_is_some mw mu (sym (before_is u w hu hw) ∙ f) g)))

    by_wedge : (c : Bool) → before u w ≡ c → cond c (before u d && before d w) (before u d || before d w) ≡ true → is_nearer (mirrored u) (mirrored w) (mirrored d) ≡ true
    by_wedge true f g =
        let both = and_parts (before u d) (before d w) g in
        let first = seen d w hd hw both.1 in
        let second = seen u d hu hd both.0 in
        -- from straight up: w, d, u
        third first second
      where
        third : is_nearer straight_up (mirrored w) (mirrored d) ≡ true → is_nearer straight_up (mirrored d) (mirrored u) ≡ true → is_nearer (mirrored u) (mirrored w) (mirrored d) ≡ true
        third a b =
            let on = from_first straight_up (mirrored w) (mirrored d) (mirrored u) up_is_some mw md mu a b in
            nearer_cyclic (mirrored d) (mirrored u) (mirrored w) md mu (nearer_cyclic (mirrored w) (mirrored d) (mirrored u) mw md on (apart_nearer straight_up (mirrored w) (mirrored d) mw md a))
            (apart_nearer straight_up (mirrored d) (mirrored u) md mu b)
    by_wedge false f g =
        let last = turned f in
        ⊎_elim
        (λ (h : before u d ≡ true).
        -- d, u, w
        let a = seen u d hu hd h in
        nearer_cyclic (mirrored d) (mirrored u) (mirrored w) md mu (from_first straight_up (mirrored d) (mirrored u) (mirrored w) up_is_some md mu mw a last) (apart_nearer straight_up (mirrored d) (mirrored u) md mu a))
        (λ (h : before d w ≡ true).
        -- u, w, d
        from_first straight_up (mirrored u) (mirrored w) (mirrored d) up_is_some mu mw md last (seen d w hd hw h))
        (or_cases (before u d) (before d w) g)
