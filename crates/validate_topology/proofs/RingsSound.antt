-- What a report without lines says of rings and shells.
use Rattle.std.proofs.Common.{◌≡◌, ⊎_elim, ℕ, Bool, true, false, IsTrue, List, [], ◌∷◌, ◌++◌, flat_map, map, not, ◌==◌, refl, sym, ap, subst}
use Rattle.std.specs.Prelude.{Contains, reverse}
use Rattle.std.specs.List.{list_all}
use Rattle.std.proofs.lemmas.Bool.{and_from}
use Rattle.std.proofs.lemmas.List.Sorted.{Contains-permutation, IsPermutation-reverse}
use Rattle.topo_base.specs.declared.rows.FaceRow.{FaceRow}
use Rattle.drawing.specs.HalfEdge.{HalfEdge, half_edges}
use Rattle.drawing.specs.Star.{next_of}
use Rattle.drawing.specs.Subdivision.{faces_have_shells, rings, rings_have_one_face}
use Rattle.drawing.specs.Tables.{Tables, drawn}
use Rattle.drawing.proofs.Members.{contains-filter}
use Rattle.face_rings.proofs.Ranks.{by_bool}
use Rattle.plane.proofs.LineTests.{all_from}
use Rattle.plane.proofs.ListTests.{contains_cases, contains_none, Decides-all}
use Rattle.validate_topology.specs.OnlyIf.{only_if}
use Rattle.validate_topology.specs.RingLines.{HasRingLines, counts_wrong, count_wrong, shells_due, shells_of, side_line, sides_differ, walked_back, walked_forward}
use Rattle.validate_topology.specs.Stages.{AreFaceLines, IsReport}
use Rattle.validate_topology.specs.Stages.AreFaceLines.{on_links, on_rings, on_places}
use Rattle.validate_topology.specs.Stages.IsReport.{on_references, on_points, on_faces}
use Rattle.validate_topology.specs.declared.lines.ReportLine.{ReportLine}
use Rattle.validate_topology.proofs.Plain.{first_none, second_none}

-- ---- no line is told
none_told : {A : Type 0} (b : Bool) (line : A) → [] ≡ only_if (not b) line → b ≡ true
none_told true line e = refl
none_told false line e = absurd cc

none_of : {X : Type 0} (f : X → List ReportLine) (xs : List X) (x : X) → [] ≡ flat_map f xs → Contains xs x → [] ≡ f x
none_of f [] x e c = absurd (contains_none x c)
none_of f (y ∷ xs) x e c =
    ⊎_elim
    (λ (same : y ≡ x). subst (λ z. [] ≡ f z) same (sym (first_none (f y) (flat_map f xs) e)))
    (λ (there : Contains xs x). none_of f xs x (second_none (f y) (flat_map f xs) e) there)
    (contains_cases x y xs c)

no_parts : (t : Tables) → HasRingLines t [] → ([] ≡ sides_differ (half_edges (drawn t)) (walked_back (half_edges (drawn t)))) × ([] ≡ sides_differ (half_edges (drawn t)) (walked_forward (half_edges (drawn t))))
    × ([] ≡ counts_wrong (shells_of (rings (half_edges (drawn t)))) t.faces)
no_parts t e =
    let hs = half_edges (drawn t) in
    let back = sides_differ hs (walked_back hs) in
    let forward = sides_differ hs (walked_forward hs) in
    let counts = counts_wrong (shells_of (rings hs)) t.faces in
    let both = sym (first_none (back ++ forward) counts e) in (sym (first_none back forward both), second_none back forward both, second_none (back ++ forward) counts e)

-- ---- so rings have one face
pub one_face : (t : Tables) → HasRingLines t [] → IsTrue (rings_have_one_face (drawn t))
one_face t e =
    let hs = half_edges (drawn t) in
    let test = λ (h : HalfEdge). h.on_left == (next_of hs h).on_left in
    (Decides-all test (λ h. test h ≡ true) (λ h. (λ k. k, λ k. k)) hs).1 (all_from (λ (h : HalfEdge). test h ≡ true) hs each)
  where
    each : (h : HalfEdge) → Contains (half_edges (drawn t)) h → (h.on_left == (next_of (half_edges (drawn t)) h).on_left) ≡ true
    each h c =
        let hs = half_edges (drawn t) in
        let none = no_parts t e in
        none_told (h.on_left == (next_of hs h).on_left) _
        (⊎_elim
        (λ (way : h.is_forward ≡ true). none_of (side_line hs) (walked_forward hs) h none.1 (contains-filter (λ (k : HalfEdge). k.is_forward) h hs c way))
        (λ (way : h.is_forward ≡ false).
        none_of (side_line hs) (walked_back hs) h none.0
        (contains-filter (λ (k : HalfEdge). not k.is_forward) h (reverse hs) (Contains-permutation hs (reverse hs) h (IsPermutation-reverse hs) c) (ap not way)))
        (by_bool h.is_forward))

-- ---- and each face has its shell
all_due : (count : ℕ → ℕ) (rows : List FaceRow) → [] ≡ counts_wrong count rows → list_all (λ f. count f == shells_due f) (map (λ (f : FaceRow). f.face_id) rows) ≡ true
all_due count [] e = refl
all_due count (r ∷ rows) e =
    let here = count_wrong r.face_id (count r.face_id) in
    let rest = counts_wrong count rows in
    and_from (count r.face_id == shells_due r.face_id) (list_all (λ f. count f == shells_due f) (map (λ (f : FaceRow). f.face_id) rows))
    (none_told (count r.face_id == shells_due r.face_id) _ (sym (first_none here rest e))) (all_due count rows (second_none here rest e))

pub shells_right : (t : Tables) → HasRingLines t [] → IsTrue (faces_have_shells (drawn t))
shells_right t e = all_due (shells_of (rings (half_edges (drawn t)))) t.faces (no_parts t e).2

-- ---- by a report
no_rings : (t : Tables) (lines : List ReportLine) → AreFaceLines t lines → lines ≡ [] → HasRingLines t []
no_rings t lines (on_links some links) none = absurd (some none)
no_rings t lines (on_rings some links rings) none = absurd (some none)
no_rings t lines (on_places links rings places) none = rings

pub ringed_report : (t : Tables) (lines : List ReportLine) → IsReport t lines → lines ≡ [] → HasRingLines t []
ringed_report t lines (on_references some refs) none = absurd (some none)
ringed_report t lines (on_points some refs plain) none = absurd (some none)
ringed_report t lines (on_faces refs plain faces) none = no_rings t lines faces none
