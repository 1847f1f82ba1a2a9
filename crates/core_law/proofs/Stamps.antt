-- Along a history: where an element's stamp is the same, so is its content.
use Rattle.std.proofs.Common.{◌≡◌, ◌∙◌, ℕ, zero, suc, ◌+◌, ◌≤◌, arith, refl, sym, ap, Bool, true, false, cond, ◌||◌, ◌&&◌, ◌==◌, List, [], ◌∷◌, ◌++◌, length, take, drop, Option, Some, None, IsTrue}
use Rattle.std.specs.Prelude.{is_some, is_ok}
use Rattle.std.proofs.lemmas.Bool.{and_parts, and_from}
use Rattle.std.proofs.lemmas.Bool.Decides.{nat_tests}
use Rattle.std.proofs.lemmas.List.{take-append-drop, length-take-le}
use Rattle.topo_base.specs.declared.edit.Entry.{Entry}
use Rattle.topo_base.specs.declared.element.Element.{Element}
use Rattle.topo_base.specs.declared.element.Element.TheVariants.{Drawing as TheDrawing, Node, Edge as TheEdge, Face, Layer, Feature}
use Rattle.drawing.specs.Content.{Content, content_of, OfFace, face_content, if_there}
use Rattle.drawing.specs.Drawing.{Drawing, nothing_drawn, has_face}
use Rattle.drawing.specs.Accepted.{are_accepted, is_entry, ids_within}
use Rattle.drawing.specs.Replay.{after, after_all, edits_of, replay}
use Rattle.drawing.specs.Stamps.{stays, stamp_from, stamp}
use Rattle.drawing.specs.Step.{step}
use Rattle.history_model.proofs.Running.{edits_of-append}
use Rattle.ring_laws.proofs.RingsStaying.{rings_stay}
use Rattle.core_law.specs.Reading.{StampsTell}
use Rattle.core_law.proofs.SameContents.{there_one}

-- the drawing after these entries
abbrev drawn_after : Drawing → List Entry → Drawing
drawn_after S es = after_all S (edits_of es)

-- ---- a stamp after more entries is no less, and no greater than the last place
grows : (x : Element) (S : Drawing) (place stamp : ℕ) (es : List Entry) → stamp ≤ place → (stamp ≤ stamp_from x S place stamp es) × (stamp_from x S place stamp es ≤ place + length es)
grows x S place stamp [] h = (omega arith, omega arith)
grows x S place stamp (e ∷ es) h = by (stays x S (after S e.edit)) (grows x (after S e.edit) (place + 1) stamp es (omega arith)) (grows x (after S e.edit) (place + 1) (place + 1) es (omega arith))
  where
    by : (b : Bool) → (stamp ≤ stamp_from x (after S e.edit) (place + 1) stamp es) × (stamp_from x (after S e.edit) (place + 1) stamp es ≤ place + 1 + length es)
        → (place + 1 ≤ stamp_from x (after S e.edit) (place + 1) (place + 1) es) × (stamp_from x (after S e.edit) (place + 1) (place + 1) es ≤ place + 1 + length es)
        → (stamp ≤ stamp_from x (after S e.edit) (place + 1) (cond b stamp (place + 1)) es) × (stamp_from x (after S e.edit) (place + 1) (cond b stamp (place + 1)) es ≤ place + length (e ∷ es))
    by true k l = (k.0, omega (arith, k.1))
    by false k l = (omega (arith, l.0), omega (arith, l.1))

-- where it is the same, so is the content
same_through : (x : Element) (S : Drawing) (place stamp : ℕ) (es : List Entry) → stamp ≤ place → stamp_from x S place stamp es ≡ stamp → content_of S x ≡ content_of (drawn_after S es) x
same_through x S place stamp [] h same = refl
same_through x S place stamp (e ∷ es) h same = by (stays x S (after S e.edit)) refl (λ q. same_through x (after S e.edit) (place + 1) stamp es (omega arith) q) same
  where
    by : (b : Bool) → stays x S (after S e.edit) ≡ b → (stamp_from x (after S e.edit) (place + 1) stamp es ≡ stamp → content_of (after S e.edit) x ≡ content_of (drawn_after S (e ∷ es)) x)
        → stamp_from x (after S e.edit) (place + 1) (cond b stamp (place + 1)) es ≡ stamp → content_of S x ≡ content_of (drawn_after S (e ∷ es)) x
    by true k rest q = there_one (content_of S x) (content_of (after S e.edit) x) k ∙ rest q
    by false k rest q = let more = (grows x (after S e.edit) (place + 1) (place + 1) es (omega arith)).0 in absurd (omega arith)

-- ---- a history in two parts
stamp_parts : (x : Element) (S : Drawing) (place stamp : ℕ) (es fs : List Entry) → stamp_from x S place stamp (es ++ fs) ≡ stamp_from x (drawn_after S es) (place + length es) (stamp_from x S place stamp es) fs
stamp_parts x S place stamp [] fs = ap (λ n. stamp_from x S n stamp fs) (omega arith)
stamp_parts x S place stamp (e ∷ es) fs =
    stamp_parts x (after S e.edit) (place + 1) (cond (stays x S (after S e.edit)) stamp (place + 1)) es fs
    ∙ ap (λ n. stamp_from x (drawn_after S (e ∷ es)) n (stamp_from x S place stamp (e ∷ es)) fs) (omega arith)

-- the first entries of an accepted history are one
pub accepted_front : (max_id : ℕ) (S : Drawing) (g : ℕ) (es : List Entry) → IsTrue (are_accepted max_id S es) → IsTrue (are_accepted max_id S (take g es))
accepted_front max_id S zero es h = refl
accepted_front max_id S (suc g) [] h = refl
accepted_front max_id S (suc g) (e ∷ es) h =
    let both = and_parts (is_entry e && is_ok (step S e.edit) && ids_within max_id (after S e.edit)) (are_accepted max_id (after S e.edit) es) h in
    and_from _ _ both.0 (accepted_front max_id (after S e.edit) g es both.1)

-- ---- what is there from the beginning is never gone
never_gone : (x : Element) (T : Drawing) (c : Content) → has_face T 0 ≡ true → content_of nothing_drawn x ≡ Some c → content_of T x ≡ None → ⊥
never_gone TheDrawing T c universe begun gone = cc
never_gone (Node n) T c universe begun gone = cc
never_gone (TheEdge n) T c universe begun gone = cc
never_gone (Layer n) T c universe begun gone = cc
never_gone (Feature n) T c universe begun gone = cc
never_gone (Face f) T c universe begun gone = by f begun gone
  where
    not_there : (b : Bool) (d : Content) → b ≡ true → if_there b d ≡ None → ⊥
    not_there true d e q = cc
    not_there false d e q = cc

    not_begun : (b : Bool) (d : Content) → b ≡ false → if_there b d ≡ Some c → ⊥
    not_begun true d e q = cc
    not_begun false d e q = cc

    differs : (f : ℕ) → ((0 == suc f) || false) ≡ false
    differs f = grind (arith, nat_tests)

    by : (f : ℕ) → if_there ((0 == f) || false) (OfFace (face_content nothing_drawn f)) ≡ Some c → if_there (has_face T f) (OfFace (face_content T f)) ≡ None → ⊥
    by zero b g = not_there (has_face T 0) (OfFace (face_content T 0)) universe g
    by (suc f) b g = not_begun ((0 == suc f) || false) (OfFace (face_content nothing_drawn (suc f))) (differs f) b

-- ---- two places of one history
module _ (history : List Entry) (g : ℕ) (x : Element) (h : g ≤ length history) where
  abbrev front : List Entry
  front = take g history

  abbrev behind : List Entry
  behind = drop g history

  abbrev old : ℕ
  old = stamp front x

  now_is : stamp history x ≡ stamp_from x (replay front) g old behind
  now_is =
      ap (λ es. stamp_from x nothing_drawn 0 0 es) (sym (take-append-drop g history)) ∙ stamp_parts x nothing_drawn 0 0 front behind
      ∙ ap (λ n. stamp_from x (replay front) n old behind) (let at : 0 + length front ≡ g = omega (arith, length-take-le g history h) in at)

  ends : drawn_after (replay front) behind ≡ replay history
  ends = sym (edits_of-append nothing_drawn front behind) ∙ ap replay (take-append-drop g history)

  early : old ≤ g
  early = let k = (grows x nothing_drawn 0 0 front (omega arith)).1 in omega (arith, length-take-le g history h)

  through : stamp history x ≡ old → content_of (replay front) x ≡ content_of (replay history) x
  through e = same_through x (replay front) g old behind early (sym now_is ∙ e) ∙ ap (λ (d : Drawing). content_of d x) ends

  by_content : has_face (replay history) 0 ≡ true → (a b : Option Content) → content_of (replay front) x ≡ a → content_of (replay history) x ≡ b
      → cond (is_some a) old 0 ≡ cond (is_some b) (stamp history x) 0 → content_of (replay front) x ≡ content_of (replay history) x
  by_content universe None None p q k = p ∙ sym q
  by_content universe (Some c) (Some d) p q k = through (sym k)
  by_content universe None (Some d) p q k =
      let more = (grows x (replay front) g old behind early).0 in
      let is = now_is in
      through (omega arith)
  by_content universe (Some c) None p q k =
      let begun = same_through x nothing_drawn 0 0 front (omega arith) k in
      absurd (never_gone x (replay history) c universe (begun ∙ p) q)

pub stamps_tell : StampsTell
stamps_tell max_id history g x accepted h same =
    by_content history g x h (rings_stay.each_history max_id history accepted).universe (content_of (replay (take g history)) x) (content_of (replay history) x) refl refl same
