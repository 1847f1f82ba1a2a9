-- A point inside a line cuts it into two simple lines, which have that point in common and, where the line is closed, its ends.
use Rattle.std.proofs.Common.{◌≡◌, ℕ, refl, sym, ◌∙◌, ap, subst, ◌⊎◌, inl, inr, Bool, true, false, ◌||◌, List, [], ◌∷◌, ◌++◌}
use Rattle.std.specs.List.{list_all}
use Rattle.std.proofs.lemmas.Bool.{and_parts, and_from, cond_both, cond-true, cond-false, not_from_false}
use Rattle.std.proofs.lemmas.Bool.Decides.{Decides-not}
use Rattle.topo_base.specs.Point.{Point, same_point}
use Rattle.topo_base.specs.RationalPoint.{rational}
use Rattle.plane.specs.Segment.{Segment, on_segment}
use Rattle.plane.specs.Line.{segments_of, first_vertex, last_vertex, on_line, is_proper, line_up_to, line_from}
use Rattle.plane.specs.RationalTests.{IsOn}
use Rattle.plane.specs.Relation.{SameCoordinates}
use Rattle.plane.proofs.PointTests.{Decides-on_segment, Decides-same_point}
use Rattle.plane.proofs.Relations.{on_end, joined}
use Rattle.plane.proofs.SegmentParts.{segment}

-- ---- the two parts, by their segments
pub record SecondIs (p : Point) (here : Segment) (post parts : List Segment) (d : ℕ) : Type 0 where
  pub is : ((d ≡ 0) × (parts ≡ segment p here.b ∷ post) × (SameCoordinates p here.b → ⊥)) ⊎ ((d ≡ 1) × (parts ≡ post) × SameCoordinates p here.b)

pub record Cut (p : Point) (line : List Point) : Type 0 where
  pub pre : List Segment
  pub here : Segment
  pub post : List Segment
  pub skipped : ℕ
  pub whole : segments_of line ≡ pre ++ here ∷ post
  pub first : segments_of (line_up_to p line) ≡ pre ++ segment here.a p ∷ []
  pub second : SecondIs p here post (segments_of (line_from p line)) skipped
  pub on : IsOn (rational p) here
  pub up_first : first_vertex (line_up_to p line) ≡ first_vertex line
  pub up_last : last_vertex (line_up_to p line) ≡ p
  pub from_first : SameCoordinates p (first_vertex (line_from p line))
  pub from_last : last_vertex (line_from p line) ≡ last_vertex line
  pub proper_first : (SameCoordinates p (first_vertex line) → ⊥) → list_all is_proper (segments_of line) ≡ true → list_all is_proper (pre ++ segment here.a p ∷ []) ≡ true
  pub proper_rest : list_all is_proper (segments_of line) ≡ true → list_all is_proper post ≡ true

begins : (p b : Point) (rest : List Point) → (ps : List Point) × (line_up_to p (b ∷ rest) ≡ b ∷ ps)
begins p b [] = ([], refl)
begins p b (c ∷ rest) =
    cond_both (on_segment p (segment b c)) (b ∷ p ∷ []) (b ∷ line_up_to p (c ∷ rest)) (λ z. (ps : List Point) × (z ≡ b ∷ ps)) (λ _. (p ∷ [], refl)) (λ _. (line_up_to p (c ∷ rest), refl))

pub differ_proper : (a b : Point) → (SameCoordinates a b → ⊥) → is_proper (segment a b) ≡ true
differ_proper a b h = (Decides-not (same_point a b) (Decides-same_point a b)).1 h

cut_here : (p a b : Point) (rest : List Point) → on_segment p (segment a b) ≡ true → (same : Bool) → same_point p b ≡ same → Cut p (a ∷ b ∷ rest)
cut_here p a b rest h true e =
    let up : line_up_to p (a ∷ b ∷ rest) ≡ a ∷ p ∷ [] = cond-true (on_segment p (segment a b)) _ _ h in
    let down : line_from p (a ∷ b ∷ rest) ≡ b ∷ rest = cond-true (on_segment p (segment a b)) _ _ h ∙ cond-true (same_point p b) _ _ e in
    let at = (Decides-same_point p b).0 e in
    record {
      pre = [];
      here = segment a b;
      post = segments_of (b ∷ rest);
      skipped = 1;
      whole = refl;
      first = ap segments_of up;
      second = record { is = inr (refl, ap segments_of down, at) };
      on = (Decides-on_segment p (segment a b)).0 h;
      up_first = ap first_vertex up;
      up_last = ap last_vertex up;
      from_first = subst (λ l. SameCoordinates p (first_vertex l)) (sym down) at;
      from_last = ap last_vertex down;
      proper_first = λ far _. and_from _ true (differ_proper a p (λ s. far (sym s.0, sym s.1))) refl;
      proper_rest = λ k. (and_parts (is_proper (segment a b)) (list_all is_proper (segments_of (b ∷ rest))) k).1;
    }
cut_here p a b rest h false e =
    let up : line_up_to p (a ∷ b ∷ rest) ≡ a ∷ p ∷ [] = cond-true (on_segment p (segment a b)) _ _ h in
    let down : line_from p (a ∷ b ∷ rest) ≡ p ∷ b ∷ rest = cond-true (on_segment p (segment a b)) _ _ h ∙ cond-false (same_point p b) _ _ e in
    let far = (Decides-not (same_point p b) (Decides-same_point p b)).0 (not_from_false (same_point p b) e) in
    record {
      pre = [];
      here = segment a b;
      post = segments_of (b ∷ rest);
      skipped = 0;
      whole = refl;
      first = ap segments_of up;
      second = record { is = inl (refl, ap segments_of down, far) };
      on = (Decides-on_segment p (segment a b)).0 h;
      up_first = ap first_vertex up;
      up_last = ap last_vertex up;
      from_first = subst (λ l. SameCoordinates p (first_vertex l)) (sym down) (joined p);
      from_last = ap last_vertex down;
      proper_first = λ far _. and_from _ true (differ_proper a p (λ s. far (sym s.0, sym s.1))) refl;
      proper_rest = λ k. (and_parts (is_proper (segment a b)) (list_all is_proper (segments_of (b ∷ rest))) k).1;
    }

cut_later : (p a b : Point) (rest : List Point) → on_segment p (segment a b) ≡ false → Cut p (b ∷ rest) → Cut p (a ∷ b ∷ rest)
cut_later p a b rest h c =
    let s = segment a b in
    let w = begins p b rest in
    let up : line_up_to p (a ∷ b ∷ rest) ≡ a ∷ b ∷ w.0 = cond-false (on_segment p s) _ _ h ∙ ap (λ l. a ∷ l) w.1 in
    let down : line_from p (a ∷ b ∷ rest) ≡ line_from p (b ∷ rest) = cond-false (on_segment p s) _ _ h in
    let not_on : IsOn (rational p) s → ⊥ = (Decides-not (on_segment p s) (Decides-on_segment p s)).0 (not_from_false (on_segment p s) h) in
    record {
      pre = s ∷ c.pre;
      here = c.here;
      post = c.post;
      skipped = c.skipped;
      whole = ap (λ ss. s ∷ ss) c.whole;
      first = ap segments_of up ∙ ap (λ ss. s ∷ ss) (ap segments_of (sym w.1) ∙ c.first);
      second = subst (λ l. SecondIs p c.here c.post (segments_of l) c.skipped) (sym down) c.second;
      on = c.on;
      up_first = ap first_vertex up;
      up_last = ap last_vertex up ∙ ap last_vertex (sym w.1) ∙ c.up_last;
      from_first = subst (λ l. SameCoordinates p (first_vertex l)) (sym down) c.from_first;
      from_last = ap last_vertex down ∙ c.from_last;
      proper_first = λ _ k.
          let both = and_parts (is_proper s) (list_all is_proper (segments_of (b ∷ rest))) k in
          and_from (is_proper s) _ both.0 (c.proper_first (λ at. not_on (on_end s p (inr at))) both.1);
      proper_rest = λ k. c.proper_rest (and_parts (is_proper s) (list_all is_proper (segments_of (b ∷ rest))) k).1;
    }

pub cut : (p : Point) (line : List Point) → on_line p line ≡ true → Cut p line
cut p [] h = absurd cc
cut p (a ∷ []) h = absurd cc
cut p (a ∷ b ∷ rest) h = by_test p a b rest (on_segment p (segment a b)) refl h (λ k. cut p (b ∷ rest) k)
  where
    by_test : (p a b : Point) (rest : List Point) (c : Bool) → on_segment p (segment a b) ≡ c → (on_segment p (segment a b) || on_line p (b ∷ rest)) ≡ true → (on_line p (b ∷ rest) ≡ true → Cut p (b ∷ rest))
        → Cut p (a ∷ b ∷ rest)
    by_test p a b rest true e h later = cut_here p a b rest e (same_point p b) refl
    by_test p a b rest false e h later = cut_later p a b rest e (later (sym (ap (λ c. c || on_line p (b ∷ rest)) e) ∙ h))
