-- Two lists of the same steps in another order have the same parities, rings and shells.
use Rattle.std.proofs.Common.{◌≡◌, ℕ, sym, ◌∙◌, Bool, List}
use Rattle.topo_base.specs.Point.{Point}
use Rattle.plane.specs.Segment.{Segment}
use Rattle.plane.specs.Direction.{Direction}
use Rattle.plane.specs.Crossings.{crosses}
use Rattle.parity_laws.specs.Steps.{odd, above, turned, left, direction, leaves_before}
use Rattle.parity_laws.specs.Ways.{Outside}
use Rattle.parity_laws.specs.Rings.{Next, Within, those, Ringwise, OneRing, Sided}
use Rattle.parity_laws.proofs.Ringwise.{each_in, in_each}
use Rattle.parity_laws.specs.Shelling.{IsRingLabel, IsShellOf, OneShell, NoShell}

-- U has the steps of T, and each sum over labelled steps is the same
pub record Rearranged (T U : List Segment) : Type 0 where
  pub there : Within T U
  pub back : Within U T
  pub sums : (label g : Segment → Bool) → odd g (those label T) ≡ odd g (those label U)

pub rearranged_back : (T U : List Segment) → Rearranged T U → Rearranged U T
rearranged_back T U r = record { there = r.back; back = r.there; sums = λ label g. sym (r.sums label g) }

pub same_above : (T U : List Segment) (label : Segment → Bool) (v : Point) → Rearranged T U → above (those label T) v ≡ above (those label U) v
same_above T U label v r = r.sums label (λ t. crosses t v)

pub same_turned : (T U : List Segment) (label : Segment → Bool) (v : Point) (u : Direction) → Rearranged T U → turned (those label T) v u ≡ turned (those label U) v u
same_turned T U label v u r = r.sums label (leaves_before v u)

pub same_left : (T U : List Segment) (label : Segment → Bool) (s : Segment) → Rearranged T U → left (those label T) s ≡ left (those label U) s
same_left T U label s r = cc (same_above T U label s.a r, same_turned T U label s.a (direction s) r)

pub same_sided : (T U : List Segment) (label : Segment → Bool) → Rearranged T U → Sided T label → Sided U label
same_sided T U label r sided s i = sym (same_left T U label s r) ∙ sided s (r.back s i)

pub same_next : (T U : List Segment) (d n : Segment) → Rearranged T U → Next T d n → Next U d n
same_next T U d n r next = record { meets = next.meets; first = in_each (Outside d (direction n)) U (λ t i. each_in (Outside d (direction n)) T next.first t (r.back t i)) }

pub same_ringwise : (T U : List Segment) (label : Segment → Bool) → Rearranged T U → Ringwise T label → Ringwise U label
same_ringwise T U label r h d n i j next = h d n (r.back d i) (r.back n j) (same_next U T d n (rearranged_back T U r) next)

pub same_one : (T U : List Segment) (p : Segment → Bool) → Rearranged T U → OneRing T p → OneRing U p
same_one T U p r one h ringwise s t i j ps pt = one h (same_ringwise U T h (rearranged_back T U r) ringwise) s t (r.back s i) (r.back t j) ps pt

abbrev pub same_ring : (T U : List Segment) (p : Segment → Bool) → Rearranged T U → IsRingLabel T p → IsRingLabel U p
same_ring T U p r h = record { ringwise = same_ringwise T U p r h.ringwise; one = same_one T U p r h.one; step = h.step; there = r.there h.step h.there; mine = h.mine }

pub same_shell : (T U : List Segment) (F : Segment → ℕ) (f : ℕ) (p : Segment → Bool) → Rearranged T U → IsShellOf T F f p → IsShellOf U F f p
same_shell T U F f p r h = record { ring = same_ring T U p r h.ring; face = h.face; is_left = sym (same_left T U p h.ring.step r) ∙ h.is_left }

pub same_one_shell : (T U : List Segment) (F : Segment → ℕ) (f : ℕ) → Rearranged T U → OneShell T F f → OneShell U F f
same_one_shell T U F f r h = record {
  p = h.p;
  shell = same_shell T U F f h.p r h.shell;
  only = λ p q a b s i. h.only p q (same_shell U T F f p (rearranged_back T U r) a) (same_shell U T F f q (rearranged_back T U r) b) s (r.back s i);
}

pub same_no_shell : (T U : List Segment) (F : Segment → ℕ) (f : ℕ) → Rearranged T U → NoShell T F f → NoShell U F f
same_no_shell T U F f r none p h = none p (same_shell U T F f p (rearranged_back T U r) h)
