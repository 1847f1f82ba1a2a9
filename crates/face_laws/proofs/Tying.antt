-- Two steps whose common points are ends of both are tied.
use Rattle.std.proofs.Common.{◌≡◌, ◌≢◌, refl, sym, ◌∙◌, ap, ◌⊎◌, inl, inr, ⊎_elim, Bool, true, false}
use Rattle.std.proofs.lemmas.Bool.{both_ways}
use Rattle.topo_base.specs.Point.{Point, same_point}
use Rattle.topo_base.specs.RationalPoint.{RationalPoint, rational, IsAt, SamePoint}
use Rattle.plane.specs.Segment.{Segment}
use Rattle.plane.specs.Relation.{IsEnd}
use Rattle.plane.specs.RationalTests.{IsOn}
use Rattle.plane.specs.Crossings.{back}
use Rattle.plane.proofs.Collinear.{on_round}
use Rattle.drawing.proofs.PlainSplits.{one_point}
use Rattle.plane.proofs.Relations.{same_end}
use Rattle.plane.proofs.Signs.{times_one}
use Rattle.parity_laws.specs.Ways.{Tied, Fork}
use Rattle.parity_laws.proofs.Tests.{same_self, same_is}
use Rattle.parity_laws.proofs.Apartness.{fork_from}

-- each point on both is an end of both
abbrev pub MeetAtEnds : Segment → Segment → Type 0
MeetAtEnds s t = (q : RationalPoint) → IsOn q s → IsOn q t → IsEnd q s × IsEnd q t

same_or_not : (p q : Point) → (p ≡ q) ⊎ (p ≡ q → ⊥)
same_or_not p q = by_test (same_point p q) refl
  where
    by_test : (b : Bool) → same_point p q ≡ b → (p ≡ q) ⊎ (p ≡ q → ⊥)
    by_test true e = inl (same_is p q e)
    by_test false e = inr (λ f. both_ways (same_point p q) e (ap (same_point p) (sym f) ∙ same_self p))

-- a point that is two grid points
pub one_end : (q : RationalPoint) (p r : Point) → IsAt p q → IsAt r q → p ≡ r
one_end q p r h k = one_point p r (same_end q p r h k)

pub at_rational : (p : Point) (q : RationalPoint) → IsAt p q → SamePoint q (rational p)
at_rational p q h = (times_one q.x ∙ h.0, times_one q.y ∙ h.1)

-- steps with one start, and two other ends
fork_at_start : (s t : Segment) → t.a ≡ s.a → t.b ≢ s.b → s.a ≢ s.b → t.a ≢ t.b → MeetAtEnds s t → Fork s t
fork_at_start s t e other ns nt ends =
    fork_from s t e ns nt (λ r on_s on_t.
    let both = ends r on_s on_t in
    ⊎_elim
    (λ (a : IsAt s.a r). at_rational s.a r a)
    (λ (b : IsAt s.b r). absurd (⊎_elim
    (λ (a : IsAt t.a r). ns (sym e ∙ one_end r t.a s.b a b))
    (λ (c : IsAt t.b r). other (one_end r t.b s.b c b))
    both.1))
    both.0)

end_turned : (q : RationalPoint) (s : Segment) → IsEnd q s → IsEnd q (back s)
end_turned q s = ⊎_elim (λ (a : IsAt s.a q). inr a) (λ (b : IsAt s.b q). inl b)

pub turned_first : (s t : Segment) → MeetAtEnds s t → MeetAtEnds (back s) t
turned_first s t ends q on_s on_t = let both = ends q (on_round (back s) q on_s) on_t in (end_turned q s both.0, both.1)

pub turned_second : (s t : Segment) → MeetAtEnds s t → MeetAtEnds s (back t)
turned_second s t ends q on_s on_t = let both = ends q on_s (on_round (back t) q on_t) in (both.0, end_turned q t both.1)

pub tied_from : (s t : Segment) → s.a ≢ s.b → t.a ≢ t.b → MeetAtEnds s t → Tied s t
tied_from s t ns nt ends =
    ⊎_elim
    (λ (e : t.a ≡ s.a). ⊎_elim
    (λ (f : t.b ≡ s.b). inr (inl (inl (e, f))))
    (λ (f : t.b ≡ s.b → ⊥). inr (inl (inr (inl (fork_at_start s t e f ns nt ends)))))
    (same_or_not t.b s.b))
    (λ (na : t.a ≡ s.a → ⊥). ⊎_elim
    (λ (e : t.a ≡ s.b). ⊎_elim
    (λ (f : t.b ≡ s.a). inr (inr (inl (f, e))))
    (λ (f : t.b ≡ s.a → ⊥). inr (inl (inr (inr (fork_at_start (back s) t e f turned_s nt (turned_first s t ends))))))
    (same_or_not t.b s.a))
    (λ (nb : t.a ≡ s.b → ⊥). ⊎_elim
    (λ (e : t.b ≡ s.a). inr (inr (inr (inl (fork_at_start s (back t) e nb ns turned_t (turned_second s t ends))))))
    (λ (nc : t.b ≡ s.a → ⊥). ⊎_elim
    (λ (e : t.b ≡ s.b). inr (inr (inr (inr (fork_at_start (back s) (back t) e na turned_s turned_t (turned_second (back s) t (turned_first s t ends)))))))
    (λ (nd : t.b ≡ s.b → ⊥). inl (λ q both. apart na nb nc nd q (ends q both.1 both.0)))
    (same_or_not t.b s.b))
    (same_or_not t.b s.a))
    (same_or_not t.a s.b))
    (same_or_not t.a s.a)
  where
    turned_s : s.b ≢ s.a
    turned_s e = ns (sym e)

    turned_t : t.b ≢ t.a
    turned_t e = nt (sym e)

    apart : (t.a ≡ s.a → ⊥) → (t.a ≡ s.b → ⊥) → (t.b ≡ s.a → ⊥) → (t.b ≡ s.b → ⊥) → (q : RationalPoint) → IsEnd q s × IsEnd q t → ⊥
    apart na nb nc nd q both =
        ⊎_elim
        (λ (a : IsAt s.a q). ⊎_elim (λ (c : IsAt t.a q). na (one_end q t.a s.a c a)) (λ (d : IsAt t.b q). nc (one_end q t.b s.a d a)) both.1)
        (λ (b : IsAt s.b q). ⊎_elim (λ (c : IsAt t.a q). nb (one_end q t.a s.b c b)) (λ (d : IsAt t.b q). nd (one_end q t.b s.b d b)) both.1)
        both.0
