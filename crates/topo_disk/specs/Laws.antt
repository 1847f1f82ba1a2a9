-- The laws that a disk in memory owes the trait: what is left where nothing is pending, and what this moment adds.
use Rattle.std.proofs.Common.{◌≡◌, ℕ, ◌≤◌, false, List, [], ◌∷◌, length, refl, sym, ◌∙◌, ap, subst, arith}
use Rattle.std.proofs.lemmas.List.{take_all, ext_get_or}
use Rattle.topo_disk.specs.declared.call.Called.{Called}
use Rattle.topo_disk.specs.Disk.{Only}
use Rattle.topo_disk.specs.Standing.{Standing, fresh, after_all, has_range, is_pending, IsImage, IsReached, Untouched}
use Rattle.topo_disk.specs.Moments.{LeftSince}

same_image : (s : Standing) (bytes c : List ℕ) → IsReached s bytes → s.written ≡ [] → IsImage s c → c ≡ bytes
same_image s bytes c reached none image =
    let kept : s.kept ≡ bytes = reached.calm none in
    let long : length c ≡ length s.kept = omega (arith, image.no_shorter, image.no_longer, ap length kept, ap length reached.seen) in
    ext_get_or 0 c s.kept long (λ k below. image.same k (omega (arith, below, long)) (subst (Untouched k) (sym none) tt)) ∙ kept

no_range : (ranges : List (ℕ × ℕ)) → has_range ranges ≡ false → ranges ≡ []
no_range [] e = refl
no_range (range ∷ ranges) e = cc e

pub only_image : (s : Standing) (bytes : List ℕ) → IsReached s bytes → is_pending s ≡ false → Only bytes (IsImage s)
only_image s bytes reached calm c image = same_image s bytes c reached (no_range s.written calm) image

pub now_counts : (first : List ℕ) (calls : List Called) (t : ℕ) (c : List ℕ) → t ≤ length calls → IsImage (after_all (fresh first) calls) c → LeftSince first calls t c
now_counts first calls t c le image = (length calls, le, omega arith, subst (λ l. IsImage (after_all (fresh first) l) c) (sym (take_all (length calls) calls (omega arith))) image)

pub now_only : (first : List ℕ) (calls : List Called) (c : List ℕ) → LeftSince first calls (length calls) c → IsImage (after_all (fresh first) calls) c
now_only first calls c (k, from, to, image) = subst (λ l. IsImage (after_all (fresh first) l) c) (take_all k calls from) image
