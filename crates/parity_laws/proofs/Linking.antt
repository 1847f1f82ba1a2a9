-- Two points are linked by steps, or a test of points that is one at both ends of each step tells them apart.
use Rattle.std.proofs.Common.{◌≡◌, refl, sym, ◌∙◌, ap, ◌⊎◌, inl, inr, ⊎_elim, Bool, true, false, ◌&&◌, List, [], ◌∷◌, ◌++◌}
use Rattle.std.specs.Prelude.{◌||◌}
use Rattle.std.proofs.lemmas.Bool.{and_from, or_right}
use Rattle.topo_base.specs.Point.{Point, same_point}
use Rattle.plane.specs.Segment.{Segment}
use Rattle.plane.specs.Parity.{xor}
use Rattle.parity_laws.specs.Steps.{odd, Each}
use Rattle.parity_laws.specs.Rings.{In, Within}
use Rattle.parity_laws.proofs.Sums.{xor_comm, xor_self, odd_append, summing}
use Rattle.parity_laws.proofs.Tests.{same_self, same_is}
use Rattle.parity_laws.proofs.Lists.{in_cases}

-- steps of the list that end, modulo 2, at x and y alone
pub record LinkedPoints (T : List Segment) (x y : Point) : Type 0 where
  pub through : List Segment
  pub within : Within through T
  pub ends : (h : Point → Bool) → odd (λ t. xor (h t.a) (h t.b)) through ≡ xor (h x) (h y)

pub record PartedPoints (T : List Segment) (x y : Point) : Type 0 where
  pub side : Point → Bool
  pub kept : Each (λ t. side t.a ≡ side t.b) T
  pub at_x : side x ≡ true
  pub at_y : side y ≡ false

-- with one step more, between u on the side of x and v on the side of y
over_step : (t : Segment) (T : List Segment) (x y u v : Point) → ((h : Point → Bool) → xor (h t.a) (h t.b) ≡ xor (h u) (h v)) → ((k : Point → Bool) → k u ≡ k v → k t.a ≡ k t.b) →
    (c : PartedPoints T x y) → c.side u ≡ true → c.side v ≡ false → LinkedPoints T x u ⊎ PartedPoints T x u → LinkedPoints T v y ⊎ PartedPoints T v y → LinkedPoints (t ∷ T) x y ⊎ PartedPoints (t ∷ T) x y
over_step t T x y u v sum keep c cu cv near far =
    ⊎_elim
    (λ (a : LinkedPoints T x u).
    ⊎_elim
    (λ (b : LinkedPoints T v y). inl (record {
      through = a.through ++ (t ∷ b.through);
      within = λ s i.
          ⊎_elim
          (λ (j : In s a.through). inr (a.within s j))
          (λ (j : In s (t ∷ b.through)). ⊎_elim (λ (e : s ≡ t). inl e) (λ (k : In s b.through). inr (b.within s k)) j)
          (in_cases s a.through (t ∷ b.through) i);
      ends = λ h.
          odd_append (λ s. xor (h s.a) (h s.b)) a.through (t ∷ b.through)
          ∙ sum_of (odd (λ s. xor (h s.a) (h s.b)) a.through) (xor (h t.a) (h t.b)) (odd (λ s. xor (h s.a) (h s.b)) b.through) (h x) (h u) (h v) (h y) (a.ends h) (sum h) (b.ends h);
    }))
    (λ (b : PartedPoints T v y). inr (record {
      side = λ z. b.side z || c.side z;
      kept = (keep (λ z. b.side z || c.side z) (left_or (b.side u) (c.side u) (b.side v) (c.side v) cu b.at_x), both_or T b.side c.side b.kept c.kept);
      at_x = or_right (b.side x) (c.side x) c.at_x;
      at_y = neither (b.side y) (c.side y) b.at_y c.at_y;
    }))
    far)
    (λ (a : PartedPoints T x u). inr (record {
      side = λ z. a.side z && c.side z;
      kept = (keep (λ z. a.side z && c.side z) (no_and (a.side u) (c.side u) (a.side v) (c.side v) a.at_y cv), both_and T a.side c.side a.kept c.kept);
      at_x = and_from (a.side x) (c.side x) a.at_x c.at_x;
      at_y = none (a.side y) (c.side y) c.at_y;
    }))
    near
  where
    sum_of : (l m n x u v y : Bool) → l ≡ xor x u → m ≡ xor u v → n ≡ xor v y → xor l (xor m n) ≡ xor x y
    sum_of l m n x u v y e f g = rw (e, f, g) (plain x u v y)
      where
        plain : (x u v y : Bool) → xor (xor x u) (xor (xor u v) (xor v y)) ≡ xor x y
        plain x u v y = simp summing

    left_or : (a b c d : Bool) → b ≡ true → c ≡ true → (a || b) ≡ (c || d)
    left_or true b c d e f = rw f
    left_or false b c d e f = rw (e, f)

    no_and : (a b c d : Bool) → a ≡ false → d ≡ false → a && b ≡ c && d
    no_and a b true d e f = rw (e, f)
    no_and a b false d e f = rw e

    neither : (a b : Bool) → a ≡ false → b ≡ false → (a || b) ≡ false
    neither a b e f = rw (e, f)

    none : (a b : Bool) → b ≡ false → a && b ≡ false
    none true b e = e
    none false b e = refl

    both_or : (X : List Segment) (g h : Point → Bool) → Each (λ t. g t.a ≡ g t.b) X → Each (λ t. h t.a ≡ h t.b) X → Each (λ t. (g t.a || h t.a) ≡ (g t.b || h t.b)) X
    both_or [] g h k m = tt
    both_or (e ∷ X) g h k m = (pair (g e.a) (g e.b) (h e.a) (h e.b) k.0 m.0, both_or X g h k.1 m.1)
      where
        pair : (a b c d : Bool) → a ≡ b → c ≡ d → (a || c) ≡ (b || d)
        pair a b c d e f = rw (e, f)

    both_and : (X : List Segment) (g h : Point → Bool) → Each (λ t. g t.a ≡ g t.b) X → Each (λ t. h t.a ≡ h t.b) X → Each (λ t. g t.a && h t.a ≡ g t.b && h t.b) X
    both_and [] g h k m = tt
    both_and (e ∷ X) g h k m = (pair (g e.a) (g e.b) (h e.a) (h e.b) k.0 m.0, both_and X g h k.1 m.1)
      where
        pair : (a b c d : Bool) → a ≡ b → c ≡ d → a && c ≡ b && d
        pair a b c d e f = rw (e, f)

-- each two points are linked or parted
pub linked_or_parted : (T : List Segment) (x y : Point) → LinkedPoints T x y ⊎ PartedPoints T x y
linked_or_parted [] x y = by_test (same_point x y) refl
  where
    by_test : (b : Bool) → same_point x y ≡ b → LinkedPoints [] x y ⊎ PartedPoints [] x y
    by_test true e = inl (record {
      through = [];
      within = λ s i. i;
      ends = λ h. sym (ap (λ z. xor (h x) (h z)) (sym (same_is x y e)) ∙ xor_self (h x));
    })
    by_test false e = inr (record { side = same_point x; kept = tt; at_x = same_self x; at_y = e })
linked_or_parted (t ∷ T) x y = by_rest (linked_or_parted T x y) (linked_or_parted T x t.a) (linked_or_parted T t.b y) (linked_or_parted T x t.b) (linked_or_parted T t.a y)
  where
    by_sides : (c : PartedPoints T x y) → LinkedPoints T x t.a ⊎ PartedPoints T x t.a → LinkedPoints T t.b y ⊎ PartedPoints T t.b y → LinkedPoints T x t.b ⊎ PartedPoints T x t.b → LinkedPoints T t.a y ⊎ PartedPoints T t.a y →
        (a b : Bool) → c.side t.a ≡ a → c.side t.b ≡ b → LinkedPoints (t ∷ T) x y ⊎ PartedPoints (t ∷ T) x y
    by_sides c k l m n true true e f = inr (record { side = c.side; kept = (e ∙ sym f, c.kept); at_x = c.at_x; at_y = c.at_y })
    by_sides c k l m n true false e f = over_step t T x y t.a t.b (λ h. refl) (λ z g. g) c e f k l
    by_sides c k l m n false true e f = over_step t T x y t.b t.a (λ h. xor_comm (h t.a) (h t.b)) (λ z g. sym g) c f e m n
    by_sides c k l m n false false e f = inr (record { side = c.side; kept = (e ∙ sym f, c.kept); at_x = c.at_x; at_y = c.at_y })

    by_rest : LinkedPoints T x y ⊎ PartedPoints T x y → LinkedPoints T x t.a ⊎ PartedPoints T x t.a → LinkedPoints T t.b y ⊎ PartedPoints T t.b y → LinkedPoints T x t.b ⊎ PartedPoints T x t.b → LinkedPoints T t.a y ⊎ PartedPoints T t.a y →
        LinkedPoints (t ∷ T) x y ⊎ PartedPoints (t ∷ T) x y
    by_rest h k l m n =
        ⊎_elim
        (λ (a : LinkedPoints T x y). inl (record { through = a.through; within = λ s i. inr (a.within s i); ends = a.ends }))
        (λ (c : PartedPoints T x y). by_sides c k l m n (c.side t.a) (c.side t.b) refl refl)
        h
