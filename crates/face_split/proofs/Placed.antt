-- A line that may come between two nodes: what follows for the drawing with it, and that the edit is accepted.
use Rattle.std.proofs.Common.{◌≡◌, ℕ, ◌≤◌, Bool, true, false, not, ◌&&◌, ◌||◌, ◌==◌, List, [], ◌∷◌, ◌++◌, length, cond, Option, Some, Bor, Ok, Err, IsTrue, refl, sym, ap, ◌∙◌}
use Rattle.std.specs.List.{list_all}
use Rattle.std.specs.Option.{option_copied}
use Rattle.std.proofs.lemmas.Bool.{and_parts}
use Rattle.topo_base.specs.Point.{Point}
use Rattle.topo_base.specs.declared.rows.NodeRow.{NodeRow}
use Rattle.topo_base.specs.declared.rule.Rule.TheVariants.{LineBlocked}
use Rattle.drawing.specs.Apply.{apply, carried_out}
use Rattle.drawing.specs.Change.{Change}
use Rattle.drawing.specs.Decide.{edge_in_face}
use Rattle.drawing.proofs.Members.{contains-found}
use Rattle.drawing.proofs.PlainParts.{parts_of, plain_of}
use Rattle.edit_changes.proofs.PlainStaying.{HasPlain, edge_more}
use Rattle.drawing.specs.AddEdge.{coming, face_at_start}
use Rattle.drawing.specs.Edits.{add_edge, with_parts}
use Rattle.drawing.specs.Blocked.{goes_between, is_line_blocked}
use Rattle.drawing.specs.Drawing.{Drawing, Edge, has_face, node_at}
use Rattle.drawing.specs.HalfEdge.{backward_of}
use Rattle.drawing.specs.IsoEdits.{with_edge}
use Rattle.plane.specs.Line.{is_proper, is_simple, segments_of}
use Rattle.drawing.specs.Outcome.{Outcome}
use Rattle.drawing.specs.PlainInOrder.{IsPlainInOrder}
use Rattle.drawing.specs.Ring.{contains_half_edge}
use Rattle.drawing.specs.Subdivision.{is_edge_known}
use Rattle.drawing.specs.Step.{step}
use Rattle.drawing.specs.Tables.{Tables}
use Rattle.topo_base.specs.declared.edit.Edit.{Edit}
use Rattle.topo_base.specs.declared.edit.Edit.TheVariants.{AddEdgeModFace, AddEdgeNewFaces}
use Rattle.ring_laws.proofs.RingsStaying.{rings_stay}
use Rattle.ring_laws.specs.Ringed.{IsRinged}
use Rattle.local_laws.proofs.LineLaws.{lines_lie_in_faces}
use Rattle.local_laws.specs.Lines.{IsLineBetween}
use Rattle.subdivision_laws.specs.Subdivided.{IsSubdivided}
use Rattle.face_split.specs.Added.{added_rows}
use Rattle.face_split.specs.Placing.{IsPlaced}
use Rattle.face_split.specs.Closing.{HasAdded, WasAdded, left_ring, with_edge_in}
use Rattle.read_set.specs.Ready.{IsReady}

-- ---- the drawing with the line
ringed_with : (S : Drawing) (a b : NodeRow) (line : List Point) (f : ℕ) → IsRinged S → IsPlaced S a b line f → 2 ≤ length line → IsRinged (with_edge S a b line f)
ringed_with S a b line f ringed placed long = rings_stay.added S a b line f ringed placed.start placed.end placed.plain long placed.lies

last_holds : (p : Edge → Bool) (xs : List Edge) (x : Edge) → list_all p (xs ++ x ∷ []) ≡ true → p x ≡ true
last_holds p [] x h = (and_parts (p x) true h).0
last_holds p (y ∷ xs) x h = last_holds p xs x (and_parts (p y) (list_all p (xs ++ x ∷ [])) h).1

face_listed : (S : Drawing) (a b : NodeRow) (line : List Point) (f : ℕ) → IsRinged (with_edge S a b line f) → has_face S f ≡ true
face_listed S a b line f h =
    let T = with_edge S a b line f in
    let known = last_holds (is_edge_known T) S.edges (coming S a b line f) h.edges in
    (and_parts _ (has_face T f) known).1

pub placed_face : (S : Drawing) (a b : NodeRow) (line : List Point) (f : ℕ) → IsRinged S → IsPlaced S a b line f → 2 ≤ length line → IsTrue (has_face S f)
placed_face S a b line f ringed placed long = face_listed S a b line f (ringed_with S a b line f ringed placed long)

pub was_added : (S : Drawing) (a b : NodeRow) (line : List Point) (f : ℕ) (t : Tables) → IsReady S → IsRinged S → IsPlaced S a b line f → 2 ≤ length line → t ≡ added_rows S a b line f → WasAdded S a b line f t
was_added S a b line f t ready ringed placed long rows =
    let after = ringed_with S a b line f ringed placed long in record { ready = ready; ringed = after; face = face_listed S a b line f after; rows = rows }

pub has_added : (S : Drawing) (a b : NodeRow) (line : List Point) (f edge : ℕ) (t : Tables) → WasAdded S a b line f t → edge ≡ S.next_ids.edge → HasAdded t edge f
has_added S a b line f edge t added edge_is = record { before = S; start = a; end = b; line = line; added = added; edge_is = edge_is }

-- ---- a line that was tested may come
pub found_row : {R : Type 0} (o : Option (Bor R)) (x : Bor R) (r : Option R) → o ≡ Some x → option_copied o ≡ r → r ≡ Some x.now
found_row o x r is same = sym same ∙ ap option_copied is

pub line_between : (S : Drawing) (start end : ℕ) (a b : NodeRow) (line : List Point) → node_at S start ≡ Some a → node_at S end ≡ Some b → 2 ≤ length line → goes_between a b line ≡ true → is_simple line ≡ true
    → IsLineBetween S a b line
line_between S start end a b line found_a found_b long ends simple = record {
  start_there = (contains-found (λ (r : NodeRow). r.node_id == start) a S.nodes found_a).0;
  end_there = (contains-found (λ (r : NodeRow). r.node_id == end) b S.nodes found_b).0;
  long = long;
  ends = ends;
  simple = simple;
}

pub placed_where : (S : Drawing) (a b : NodeRow) (line : List Point) (f : ℕ) → IsSubdivided S → IsLineBetween S a b line → is_line_blocked S line ≡ false → f ≡ face_at_start S a line → IsPlaced S a b line f
placed_where S a b line f subdivided between free face =
    let ordered = subdivided.referenced.rings.rings.plain in
    let plain : HasPlain S = record { parts = parts_of S ordered.plain; ids = record { test = ordered.node_ids }; edge_ids = record { test = ordered.edge_ids } } in
    record {
      start = between.start_there;
      end = between.end_there;
      plain = plain_of (with_edge S a b line f) (edge_more S a b line f plain between.start_there between.end_there between.ends between.simple free).parts;
      proper = (and_parts (list_all is_proper (segments_of line)) _ between.simple).0;
      lies = (sym face, lines_lie_in_faces.one_face S a b line subdivided between free ∙ sym face);
    }

-- ---- and the edit is accepted
push_ok : (S : Drawing) (c d : Bool) (x y z : Change) → carried_out S (cond c (Ok x) (cond d (Ok y) (Ok z))) ≡ Ok (cond c (apply S x) (cond d (apply S y) (apply S z)))
push_ok S true d x y z = refl
push_ok S false true x y z = refl
push_ok S false false x y z = refl

parts_are : (S : Drawing) (a b : NodeRow) (line : List Point) (f : ℕ) (both : Bool) → with_parts both S a b line f ≡ Ok (with_edge_in both S a b line f)
parts_are S a b line f both = push_ok S (contains_half_edge (left_ring S a b line f) (backward_of (coming S a b line f))) (both && not (f == 0)) _ _ _

-- of such a line it is decided by what blocks it
decided : (S : Drawing) (start end : ℕ) (a b : NodeRow) (line : List Point) (both : Bool) → IsSubdivided S → node_at S start ≡ Some a → node_at S end ≡ Some b → IsLineBetween S a b line
    → add_edge both S (node_at S start) (node_at S end) line ≡ carried_out S (cond (is_line_blocked S line) (Err LineBlocked) (edge_in_face both S a b line (face_at_start S a line)))
decided S start end a b line both subdivided found_a found_b between =
    (λ i. add_edge both S (found_a i) (found_b i) line) ∙ ap (carried_out S) (lines_lie_in_faces.decided both S a b line subdivided between)

pub refused_where : (S : Drawing) (start end : ℕ) (a b : NodeRow) (line : List Point) (both : Bool) → IsSubdivided S → node_at S start ≡ Some a → node_at S end ≡ Some b → IsLineBetween S a b line
    → is_line_blocked S line ≡ true → add_edge both S (node_at S start) (node_at S end) line ≡ Err LineBlocked
refused_where S start end a b line both subdivided found_a found_b between blocked =
    decided S start end a b line both subdivided found_a found_b between
    ∙ (λ i. carried_out S (cond (blocked i) (Err LineBlocked) (edge_in_face both S a b line (face_at_start S a line))))

pub accepted_where : (S : Drawing) (start end : ℕ) (a b : NodeRow) (line : List Point) (f : ℕ) (both : Bool) → IsSubdivided S → node_at S start ≡ Some a → node_at S end ≡ Some b → IsLineBetween S a b line
    → is_line_blocked S line ≡ false → f ≡ face_at_start S a line → add_edge both S (node_at S start) (node_at S end) line ≡ Ok (with_edge_in both S a b line f)
accepted_where S start end a b line f both subdivided found_a found_b between free face =
    decided S start end a b line both subdivided found_a found_b between
    ∙ (λ i. carried_out S (cond (free i) (Err LineBlocked) (edge_in_face both S a b line (sym face i))))
    ∙ parts_are S a b line f both

-- which edit it is
abbrev pub edit_of : Bool → ℕ → ℕ → List Point → Edit
edit_of both start end line = cond both (AddEdgeNewFaces start end line) (AddEdgeModFace start end line)

pub step_of : (S : Drawing) (both : Bool) (start end : ℕ) (line : List Point) → add_edge both S (node_at S start) (node_at S end) line ≡ step S (edit_of both start end line)
step_of S true start end line = refl
step_of S false start end line = refl
