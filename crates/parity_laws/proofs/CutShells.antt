-- Rings and shells of a list of steps and of the list cut at a point are the same.
use Rattle.std.proofs.Common.{ℕ, sym, ◌∙◌, ap, Bool, List}
use Rattle.topo_base.specs.Point.{Point}
use Rattle.plane.specs.Segment.{Segment}
use Rattle.parity_laws.specs.Steps.{left}
use Rattle.parity_laws.specs.Cuts.{cut}
use Rattle.parity_laws.specs.Rings.{OneRing, those}
use Rattle.parity_laws.specs.Shelling.{IsRingLabel, IsShellOf, OneShell, NoShell}
use Rattle.parity_laws.proofs.Labels.{those_same}
use Rattle.parity_laws.proofs.Whole.{IsStepCut, whole, begin_of, begin_there, whole_begin, whole_there}
use Rattle.parity_laws.proofs.CutNext.{whole_same, ringwise_joined, ringwise_cut}
use Rattle.parity_laws.proofs.CutSides.{label_left}

-- ---- rings
pub one_cut : (T : List Segment) (d : Segment) (m : Point) → IsStepCut T d m → (p : Segment → Bool) → OneRing T p → OneRing (cut d m T) (λ u. p (whole d m u))
one_cut T d m h p one g rings u v i j pu pv =
    sym (whole_same T d m h g rings u i)
    ∙ one (λ t. g (begin_of d m t)) (ringwise_joined T d m h g rings) (whole d m u) (whole d m v) (whole_there T d m h u i) (whole_there T d m h v j) pu pv
    ∙ whole_same T d m h g rings v j

pub one_joined : (T : List Segment) (d : Segment) (m : Point) → IsStepCut T d m → (p : Segment → Bool) → OneRing (cut d m T) p → OneRing T (λ t. p (begin_of d m t))
one_joined T d m h p one g rings s t i j ps pt =
    ap g (sym (whole_begin T d m h s i))
    ∙ one (λ u. g (whole d m u)) (ringwise_cut T d m h g rings) (begin_of d m s) (begin_of d m t) (begin_there d m T s i) (begin_there d m T t j) ps pt
    ∙ ap g (whole_begin T d m h t j)

abbrev pub ring_cut : (T : List Segment) (d : Segment) (m : Point) → IsStepCut T d m → (p : Segment → Bool) → IsRingLabel T p → IsRingLabel (cut d m T) (λ u. p (whole d m u))
ring_cut T d m h p r = record {
  ringwise = ringwise_cut T d m h p r.ringwise;
  one = one_cut T d m h p r.one;
  step = begin_of d m r.step;
  there = begin_there d m T r.step r.there;
  mine = ap p (whole_begin T d m h r.step r.there) ∙ r.mine;
}

abbrev pub ring_joined : (T : List Segment) (d : Segment) (m : Point) → IsStepCut T d m → (p : Segment → Bool) → IsRingLabel (cut d m T) p → IsRingLabel T (λ t. p (begin_of d m t))
ring_joined T d m h p r = record {
  ringwise = ringwise_joined T d m h p r.ringwise;
  one = one_joined T d m h p r.one;
  step = whole d m r.step;
  there = whole_there T d m h r.step r.there;
  mine = whole_same T d m h p r.ringwise r.step r.there ∙ r.mine;
}

-- ---- shells
pub shell_cut : (T : List Segment) (d : Segment) (m : Point) (F : Segment → ℕ) (f : ℕ) (p : Segment → Bool) → IsStepCut T d m → IsShellOf T F f p → IsShellOf (cut d m T) (λ u. F (whole d m u)) f (λ u. p (whole d m u))
shell_cut T d m F f p h s = record {
  ring = ring_cut T d m h p s.ring;
  face = ap F (whole_begin T d m h s.ring.step s.ring.there) ∙ s.face;
  is_left =
      label_left T d m h p s.ring.ringwise (begin_of d m s.ring.step) (begin_there d m T s.ring.step s.ring.there)
      ∙ ap (left (those p T)) (whole_begin T d m h s.ring.step s.ring.there)
      ∙ s.is_left;
}

pub shell_joined : (T : List Segment) (d : Segment) (m : Point) (F : Segment → ℕ) (f : ℕ) (p : Segment → Bool) → IsStepCut T d m → IsShellOf (cut d m T) (λ u. F (whole d m u)) f p → IsShellOf T F f (λ t. p (begin_of d m t))
shell_joined T d m F f p h s = record {
  ring = ring_joined T d m h p s.ring;
  face = s.face;
  is_left =
      sym (label_left T d m h (λ t. p (begin_of d m t)) (ringwise_joined T d m h p s.ring.ringwise) s.ring.step s.ring.there)
      ∙ ap (λ X. left X s.ring.step) (those_same (λ u. p (begin_of d m (whole d m u))) p (cut d m T) (whole_same T d m h p s.ring.ringwise))
      ∙ s.is_left;
}

pub one_shell_cut : (T : List Segment) (d : Segment) (m : Point) (F : Segment → ℕ) (f : ℕ) → IsStepCut T d m → OneShell T F f → OneShell (cut d m T) (λ u. F (whole d m u)) f
one_shell_cut T d m F f h s = record {
  p = λ u. s.p (whole d m u);
  shell = shell_cut T d m F f s.p h s.shell;
  only = λ q r a b u i.
      sym (whole_same T d m h q a.ring.ringwise u i)
      ∙ s.only (λ t. q (begin_of d m t)) (λ t. r (begin_of d m t)) (shell_joined T d m F f q h a) (shell_joined T d m F f r h b) (whole d m u) (whole_there T d m h u i)
      ∙ whole_same T d m h r b.ring.ringwise u i;
}

pub no_shell_cut : (T : List Segment) (d : Segment) (m : Point) (F : Segment → ℕ) (f : ℕ) → IsStepCut T d m → NoShell T F f → NoShell (cut d m T) (λ u. F (whole d m u)) f
no_shell_cut T d m F f h none p s = none (λ t. p (begin_of d m t)) (shell_joined T d m F f p h s)
