-- A list with the steps of a cut list is this list in another order: it has the same sides, rings and shells.
use Rattle.std.proofs.Common.{◌≡◌, ℕ, refl, sym, ◌∙◌, ap, subst, inl, inr, ⊎_elim, Bool, true, false, cond, List, [], ◌∷◌}
use Rattle.topo_base.specs.Point.{Point}
use Rattle.plane.specs.Segment.{Segment}
use Rattle.plane.specs.Crossings.{back}
use Rattle.parity_laws.specs.Steps.{Each, above}
use Rattle.parity_laws.specs.Ways.{Tied}
use Rattle.parity_laws.specs.Cuts.{Inner, first_part, last_part, parts, cut}
use Rattle.parity_laws.specs.Rings.{In, Within, Plain, Once, Ringwise, Sided, those}
use Rattle.parity_laws.proofs.Lists.{once_append}
use Rattle.parity_laws.proofs.Ringwise.{each_in, in_each}
use Rattle.parity_laws.specs.Shelling.{OneShell, NoShell}
use Rattle.parity_laws.proofs.Rearranging.{Rearranged, same_above, same_sided, same_one_shell, same_no_shell}
use Rattle.parity_laws.proofs.RearrangedOf.{rearranged_of}
use Rattle.parity_laws.proofs.Labels.{one_shell_faces, no_shell_faces, those_same, sided_same}
use Rattle.parity_laws.proofs.Whole.{IsStepCut, exact, whole, each_part, part_is, whole_begin, whole_end}
use Rattle.parity_laws.proofs.CutSides.{label_above, sided_cut}
use Rattle.parity_laws.proofs.CutShells.{one_shell_cut, no_shell_cut}

-- ---- each part once

parts_once : (T : List Segment) (d : Segment) (m : Point) → IsStepCut T d m → (t : Segment) → Once (parts d m t)
parts_once T d m h t = by_tests (exact d t) (exact (back d) t)
  where
    two : (s r : Segment) → (s ≡ r → ⊥) → Once (s ∷ r ∷ [])
    two s r n = (λ i. ⊎_elim (λ (e : s ≡ r). n e) (λ (j : In s []). absurd j) i, (λ i. absurd i, tt))

    by_tests : (b c : Bool) → Once (cond b (first_part d m ∷ last_part d m ∷ []) (cond c (first_part (back d) m ∷ last_part (back d) m ∷ []) (t ∷ [])))
    by_tests true c = two (first_part d m) (last_part d m) (λ e. h.inner.not_start (sym (ap (λ (s : Segment). s.a) e)))
    by_tests false true = two (first_part (back d) m) (last_part (back d) m) (λ e. h.inner.not_end (sym (ap (λ (s : Segment). s.a) e)))
    by_tests false false = (λ i. absurd i, tt)

pub cut_once : (T : List Segment) (d : Segment) (m : Point) → IsStepCut T d m → Once (cut d m T)
cut_once T d m h = each_once T h.once (λ s i. i)
  where
    each_once : (X : List Segment) → Once X → Within X T → Once (cut d m X)
    each_once [] once w = tt
    each_once (t ∷ X) once w =
        once_append (parts d m t) (cut d m X) (parts_once T d m h t) (each_once X once.1 (λ s i. w s (inr i)))
        (λ u i j. once.0 (subst (λ z. In z X) (each_in (λ v. whole d m v ≡ t) (parts d m t) mine u i) (other u j)))
      where
        mine : Each (λ v. whole d m v ≡ t) (parts d m t)
        mine = each_part (λ v. whole d m v ≡ t) d m t (whole_begin T d m h t (w t (inl refl))) (whole_end T d m h t (w t (inl refl)))

        other : (u : Segment) → In u (cut d m X) → In (whole d m u) X
        other =
            part_is (λ v. In (whole d m v) X) d m X
            (λ s i. subst (λ z. In z X) (sym (whole_begin T d m h s (w s (inr i)))) i)
            (λ s i. subst (λ z. In z X) (sym (whole_end T d m h s (w s (inr i)))) i)

-- ---- lists with the steps of the cut list
pub plain_within : (T U : List Segment) → Within T U → Within U T → Plain U → Plain T
plain_within T U w v plain = record {
  proper = λ s i. plain.proper s (w s i);
  tied = λ s i. in_each (Tied s) T (λ t j. each_in (Tied s) U (plain.tied s (w s i)) t (w t j));
  both = λ s i. v (back s) (plain.both s (w s i));
}

-- U is T with d cut at m
pub record IsCutTo (T : List Segment) (d : Segment) (m : Point) (U : List Segment) : Type 0 where
  pub plain : Plain T
  pub once : Once T
  pub there : In d T
  pub inner : Inner m d
  pub new_plain : Plain U
  pub new_once : Once U
  pub parts_there : Within (cut d m T) U
  pub no_more : Within U (cut d m T)

pub is_cut : (T : List Segment) (d : Segment) (m : Point) (U : List Segment) → IsCutTo T d m U → IsStepCut T d m
is_cut T d m U h = record {
  plain = h.plain;
  once = h.once;
  there = h.there;
  inner = h.inner;
  cut_plain = plain_within (cut d m T) U h.parts_there h.no_more h.new_plain;
}

pub cut_rearranged : (T : List Segment) (d : Segment) (m : Point) (U : List Segment) → IsCutTo T d m U → Rearranged (cut d m T) U
cut_rearranged T d m U h = rearranged_of (cut d m T) U (cut_once T d m (is_cut T d m U h)) h.new_once h.parts_there h.no_more

-- ---- what carries over to such a list, where each part has the label, or the face, of its step

pub sided_split : (T : List Segment) (d : Segment) (m : Point) (U : List Segment) → IsCutTo T d m U → (p q : Segment → Bool) → ((u : Segment) → In u U → p (whole d m u) ≡ q u) →
    Ringwise T p → Sided T p → Sided U q
sided_split T d m U h p q same rings sided =
    sided_same U (λ u. p (whole d m u)) q same
    (same_sided (cut d m T) U (λ u. p (whole d m u)) (cut_rearranged T d m U h) (sided_cut T d m (is_cut T d m U h) p rings sided))

pub above_split : (T : List Segment) (d : Segment) (m : Point) (U : List Segment) → IsCutTo T d m U → (p q : Segment → Bool) → ((u : Segment) → In u U → p (whole d m u) ≡ q u) →
    (v : Point) → above (those q U) v ≡ above (those p T) v
above_split T d m U h p q same v =
    ap (λ X. above X v) (sym (those_same (λ u. p (whole d m u)) q U same))
    ∙ sym (same_above (cut d m T) U (λ u. p (whole d m u)) v (cut_rearranged T d m U h))
    ∙ label_above T d m (is_cut T d m U h) p v

pub one_shell_split : (T : List Segment) (d : Segment) (m : Point) (U : List Segment) → IsCutTo T d m U → (F G : Segment → ℕ) (f : ℕ) → ((u : Segment) → In u U → F (whole d m u) ≡ G u) →
    OneShell T F f → OneShell U G f
one_shell_split T d m U h F G f same s =
    one_shell_faces U (λ u. F (whole d m u)) G f same (same_one_shell (cut d m T) U (λ u. F (whole d m u)) f (cut_rearranged T d m U h) (one_shell_cut T d m F f (is_cut T d m U h) s))

pub no_shell_split : (T : List Segment) (d : Segment) (m : Point) (U : List Segment) → IsCutTo T d m U → (F G : Segment → ℕ) (f : ℕ) → ((u : Segment) → In u U → F (whole d m u) ≡ G u) →
    NoShell T F f → NoShell U G f
no_shell_split T d m U h F G f same none =
    no_shell_faces U (λ u. F (whole d m u)) G f same (same_no_shell (cut d m T) U (λ u. F (whole d m u)) f (cut_rearranged T d m U h) (no_shell_cut T d m F f (is_cut T d m U h) none))
