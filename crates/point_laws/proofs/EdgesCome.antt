-- Edges that come leave the points of features.
use Rattle.std.proofs.Common.{◌≡◌, ◌≢◌, ◌∙◌, ℕ, ◌+◌, arith, refl, sym, subst, ◌⊎◌, inl, inr, ⊎_elim, Bool, true, false, cond, not, ◌==◌, List, [], ◌∷◌, ◌++◌, filter, eqb-true, None}
use Rattle.std.specs.Prelude.{◌↔◌}
use Rattle.std.specs.List.{Contains}
use Rattle.std.proofs.lemmas.Bool.{both_ways, eq-eqb, not-true}
use Rattle.std.proofs.lemmas.List.Elements.{Contains-append_cases, Contains-append_right, Contains-push, Contains-push_cases, Contains-append_left}
use Rattle.topo_base.specs.Point.{Point}
use Rattle.topo_base.specs.declared.rows.NodeRow.{NodeRow}
use Rattle.plane.proofs.ListTests.{contains_cases, contains_here, contains_none, contains_there}
use Rattle.drawing.specs.Accepted.{is_line_short}
use Rattle.drawing.specs.AddEdge.{Division, coming, keeps_left, one_new, two_new}
use Rattle.drawing.specs.Drawing.{Drawing, Edge, has_face}
use Rattle.drawing.specs.IsoEdits.{with_edge}
use Rattle.drawing.proofs.Members.{contains-filtered}
use Rattle.edit_changes.specs.Evidence.{EdgeMayCome, FaceMayBeDivided, left_ring, right_ring}
use Rattle.plane.specs.Direction.{first_direction}
use Rattle.drawing.specs.Relations.{is_among}
use Rattle.ring_laws.proofs.Known.{any_in, any_out, wedge_listed}
use Rattle.face_laws.proofs.Covering.{known}
use Rattle.subdivision_laws.specs.Subdivided.{IsSubdivided}
use Rattle.subdivision_laws.proofs.RingAdded.{FacesBelow, faces_below, faces_in_order}
use Rattle.subdivision_laws.proofs.SubdivisionsStaying.{line_long}
use Rattle.point_laws.specs.PointsStay.{KeepsPoints}
use Rattle.point_laws.proofs.CutParity.{border_total, total_more}
use Rattle.point_laws.proofs.EdgeComes.{on_line_of}
use Rattle.point_laws.proofs.EdgePoints.{ListsAlike, edge_more, new_unlisted, put_twice_same}
use Rattle.point_laws.proofs.FaceDivided.{AreParts, Divides, IsListed, face_divided, parted}
use Rattle.point_laws.proofs.Follow.{listed_in}
use Rattle.point_laws.proofs.OneMore.{HasOneMore, same_in}
use Rattle.point_laws.proofs.Told.{IsTold}

-- ---- the line
-- ---- an edge within a face
abbrev own_name : ℕ → ℕ
own_name m = m

-- rows of features are as they were
pub same_lists : (B A : Drawing) (S T : Drawing) → A.features ≡ B.features → A.layers ≡ B.layers → A.relations ≡ B.relations → S.relations ≡ T.relations → ListsAlike B A S T (λ m. m)
same_lists B A S T features layers rows alike = record {
  features = features;
  layers = layers;
  above = λ kind n u k. same u;
  puntal = λ u k. same u;
  lineal = λ u k. same u;
  areal = λ u k g there. (λ h. subst (λ rs. is_among g (listed_in rs u) ≡ true) alike h, λ h. subst (λ rs. is_among g (listed_in rs u) ≡ true) (sym alike) h);
}
  where
    same : (u w : ℕ) → Contains (listed_in B.relations u) w ↔ Contains (listed_in A.relations u) w
    same u w = (λ c. subst (λ rs. Contains (listed_in rs u) w) (sym rows) c, λ c. subst (λ rs. Contains (listed_in rs u) w) rows c)

within : (S : Drawing) (a b : NodeRow) (line : List Point) (f : ℕ) → IsTold S → EdgeMayCome S a b line f → is_line_short line ≡ true → IsSubdivided (with_edge S a b line f) → HasOneMore S (with_edge S a b line f) (coming S a b line f) own_name f
within S a b line f h k short later = record {
  more = λ x c. (x, (Contains-append_left S.edges (e ∷ []) x c, record { id = refl; geom = refl; left = refl; right = refl }));
  from = λ y c. ⊎_elim (λ (old : Contains S.edges y). inl (y, (old, record { id = refl; geom = refl; left = refl; right = refl }))) (λ (is : e ≡ y). inr is) (Contains-push_cases S.edges e y c);
  there = Contains-push S.edges e;
  left = refl;
  right = refl;
  inside = λ g q there inside. same_in (with_edge S a b line f) S g q later refl (λ m. border_total m q S.edges ∙ sym (total_more m q S.edges e refl) ∙ sym (border_total m q (S.edges ++ e ∷ []))) inside;
  on = λ q on. on_line_of S a b line f q h.before (line_long line short) k on;
}
  where
    e : Edge
    e = coming S a b line f

pub edge_comes : (S : Drawing) (a b : NodeRow) (line : List Point) (f : ℕ) → EdgeMayCome S a b line f → is_line_short line ≡ true → IsTold S → IsSubdivided (with_edge S a b line f) → KeepsPoints S (with_edge S a b line f)
edge_comes S a b line f k short h later =
    edge_more S (with_edge S a b line f) (coming S a b line f) own_name f h later (within S a b line f h k short later) (same_lists S (with_edge S a b line f) S (with_edge S a b line f) refl refl refl refl)
    (put_twice_same None a.node_id b.node_id S.nodes) (λ u k among. new_unlisted S u h k among)

-- ---- the parts of a face that is divided
next_above : (S : Drawing) → IsTold S → FacesBelow S
next_above S h = faces_below S (faces_in_order S h.before.referenced.ids)

-- one part is new, and the other is the face
one_parts : (S : Drawing) (f : ℕ) (b : Bool) → IsTold S → has_face S f ≡ true → AreParts S (S.faces ++ S.next_ids.face ∷ []) (cond b f S.next_ids.face) (cond b S.next_ids.face f) f
one_parts S f b h listed = by b
  where
    new : ℕ
    new = S.next_ids.face

    fs : List ℕ
    fs = S.faces ++ new ∷ []

    old : (g : ℕ) → has_face S g ≡ true → IsListed fs g
    old g there = let s = any_out (λ x. x == g) S.faces there in any_in (λ x. x == g) fs s.0 (Contains-append_left S.faces (new ∷ []) s.0 s.1.0) s.1.1

    is_new : IsListed fs new
    is_new = any_in (λ x. x == new) fs new (Contains-push S.faces new) (eq-eqb new new refl)

    not_new : (g : ℕ) → has_face S g ≡ true → g ≢ new
    not_new g there e = let k = next_above S h g there in omega (arith, k, e)

    was : (g : ℕ) → IsListed fs g → g ≢ new → has_face S g ≡ true
    was g there n =
        let s = any_out (λ x. x == g) fs there in
        ⊎_elim (λ (c : Contains S.faces s.0). any_in (λ x. x == g) S.faces s.0 c s.1.1) (λ (e : new ≡ s.0). absurd (n (sym (e ∙ eqb-true s.0 g s.1.1)))) (Contains-push_cases S.faces new s.0 s.1.0)

    some : new ≢ 0
    some e = not_new 0 (known S h.before.covered.ringed).universe (sym e)

    by : (b : Bool) → AreParts S fs (cond b f new) (cond b new f) f
    by true = record {
      differ = λ e. not_new f listed e;
      inner = λ n. (n, some);
      kept = listed;
      left = old f listed;
      right = is_new;
      stays = λ g there nl nr. was g there nr;
      gone = λ g there n. (n, not_new g there);
      fresh = λ g there. inl refl;
    }
    by false = record {
      differ = λ e. not_new f listed (sym e);
      inner = λ n. (some, n);
      kept = listed;
      left = is_new;
      right = old f listed;
      stays = λ g there nl nr. was g there nl;
      gone = λ g there n. (not_new g there, n);
      fresh = λ g there. inr (inl refl);
    }

-- both parts are new
two_parts : (S : Drawing) (f : ℕ) → IsTold S → has_face S f ≡ true → AreParts S (filter (λ g. not (g == f)) S.faces ++ S.next_ids.face ∷ (S.next_ids.face + 1) ∷ []) S.next_ids.face (S.next_ids.face + 1) f
two_parts S f h listed = record {
  differ = λ e. omega (arith, e);
  inner = λ n. ((λ e. above 0 0 (known S h.before.covered.ringed).universe (sym e ∙ plus_none)), λ e. absurd (omega (arith, e)));
  kept = listed;
  left = any_in (λ x. x == new) fs new (Contains-append_right rest (new ∷ (new + 1) ∷ []) new (contains_here new ((new + 1) ∷ []))) (eq-eqb new new refl);
  right = any_in (λ x. x == (new + 1)) fs (new + 1) (Contains-append_right rest (new ∷ (new + 1) ∷ []) (new + 1) (contains_there (new + 1) new ((new + 1) ∷ []) (contains_here (new + 1) []))) (eq-eqb (new + 1) (new + 1) refl);
  stays = λ g there nl nr. (was g there nl nr).0;
  gone = λ g there n. ((λ e. above g 0 there (e ∙ plus_none)), (λ e. above g 1 there e));
  fresh = λ g there. inr (inr (λ e. other g there (sym e)));
}
  where
    new : ℕ
    new = S.next_ids.face

    rest : List ℕ
    rest = filter (λ g. not (g == f)) S.faces

    fs : List ℕ
    fs = rest ++ new ∷ (new + 1) ∷ []

    plus_none : new ≡ new + 0
    plus_none = omega arith

    above : (g k : ℕ) → has_face S g ≡ true → g ≡ new + k → ⊥
    above g k there e = let b = next_above S h g there in omega (arith, b, e)

    one_of : (g : ℕ) → IsListed fs g → ((has_face S g ≡ true) × (g ≢ f)) ⊎ ((g ≡ new) ⊎ (g ≡ new + 1))
    one_of g there =
        let (x, (c, t)) = any_out (λ x. x == g) fs there in
        let is : x ≡ g = eqb-true x g t in
        ⊎_elim
        (λ (d : Contains rest x).
        let r = contains-filtered (λ g. not (g == f)) x S.faces d in
        inl (any_in (λ x. x == g) S.faces x r.0 t, λ e. both_ways (x == f) (not-true (x == f) r.1) (eq-eqb x f (is ∙ e))))
        (λ (d : Contains (new ∷ (new + 1) ∷ []) x).
        inr (⊎_elim (λ (e : new ≡ x). inl (sym (e ∙ is)))
        (λ (k : Contains ((new + 1) ∷ []) x). ⊎_elim (λ (e : new + 1 ≡ x). inr (sym (e ∙ is))) (λ (n : Contains [] x). absurd (contains_none x n)) (contains_cases x (new + 1) [] k))
        (contains_cases x new ((new + 1) ∷ []) d)))
        (Contains-append_cases rest (new ∷ (new + 1) ∷ []) x c)

    was : (g : ℕ) → IsListed fs g → g ≢ new → g ≢ new + 1 → (has_face S g ≡ true) × (g ≢ f)
    was g there nl nr =
        ⊎_elim (λ (p : (has_face S g ≡ true) × (g ≢ f)). p) (λ (p : (g ≡ new) ⊎ (g ≡ new + 1)). absurd (⊎_elim (λ (e : g ≡ new). nl e) (λ (e : g ≡ new + 1). nr e) p)) (one_of g there)

    other : (g : ℕ) → IsListed fs g → f ≢ g
    other g there e =
        ⊎_elim
        (λ (p : (has_face S g ≡ true) × (g ≢ f)). p.1 (sym e))
        (λ (p : (g ≡ new) ⊎ (g ≡ new + 1)). ⊎_elim (λ (k : g ≡ new). above f 0 listed (e ∙ k ∙ plus_none)) (λ (k : g ≡ new + 1). above f 1 listed (e ∙ k)) p)
        (one_of g there)

-- ---- a face is divided
divides : (S : Drawing) (a b : NodeRow) (line : List Point) (d : Division) (fs : List ℕ) → FaceMayBeDivided S a b line d.face → is_line_short line ≡ true → IsTold S → AreParts S fs d.left_part d.right_part d.face → Divides S a b line d fs
divides S a b line d fs k short h parts = record { told = h; parts = parts; long = line_long line short; may = k.edge }

face_listed : (S : Drawing) (a b : NodeRow) (line : List Point) (f : ℕ) → EdgeMayCome S a b line f → IsTold S → has_face S f ≡ true
face_listed S a b line f k h = subst (λ z. has_face S z ≡ true) k.starts_in (wedge_listed S a (first_direction line) (known S h.before.covered.ringed) k.start_there)

pub face_parted : (S : Drawing) (a b : NodeRow) (line : List Point) (d : Division) → FaceMayBeDivided S a b line d.face → d ≡ one_new (with_edge S a b line d.face) d.face (left_ring S a b line d.face) (right_ring S a b line d.face)
    → is_line_short line ≡ true → IsTold S → IsSubdivided (parted S a b line d (S.faces ++ S.next_ids.face ∷ []) 1) → KeepsPoints S (parted S a b line d (S.faces ++ S.next_ids.face ∷ []) 1)
face_parted S a b line d k is short h later =
    face_divided S a b line d (S.faces ++ S.next_ids.face ∷ []) 1
    (divides S a b line d (S.faces ++ S.next_ids.face ∷ []) k short h
    (subst (λ (z : Division). AreParts S (S.faces ++ S.next_ids.face ∷ []) z.left_part z.right_part d.face) (sym is) (one_parts S d.face (keeps_left d.face (left_ring S a b line d.face)) h (face_listed S a b line d.face k.edge h))))
    later

pub face_parted_anew : (S : Drawing) (a b : NodeRow) (line : List Point) (d : Division) → FaceMayBeDivided S a b line d.face → d ≡ two_new (with_edge S a b line d.face) d.face (left_ring S a b line d.face) (right_ring S a b line d.face)
    → is_line_short line ≡ true → IsTold S → IsSubdivided (parted S a b line d (filter (λ g. not (g == d.face)) S.faces ++ S.next_ids.face ∷ (S.next_ids.face + 1) ∷ []) 2)
    → KeepsPoints S (parted S a b line d (filter (λ g. not (g == d.face)) S.faces ++ S.next_ids.face ∷ (S.next_ids.face + 1) ∷ []) 2)
face_parted_anew S a b line d k is short h later =
    let fs = filter (λ g. not (g == d.face)) S.faces ++ S.next_ids.face ∷ (S.next_ids.face + 1) ∷ [] in
    face_divided S a b line d fs 2
    (divides S a b line d fs k short h (subst (λ (z : Division). AreParts S fs z.left_part z.right_part d.face) (sym is) (two_parts S d.face h (face_listed S a b line d.face k.edge h))))
    later
