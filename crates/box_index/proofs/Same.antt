-- When two entries are one.
use Rattle.std.proofs.Common.{◌≡◌, ◌∙◌, Bool, ◌&&◌, eqb, int_eq, sym, ap}
use Rattle.std.specs.Bool.{Decides}
use Rattle.std.proofs.lemmas.Bool.Decides.{Decides-and, Decides-eqb, Decides-int_eq}
use Rattle.topo_base.specs.declared.rows.Box4.{Box4}
use Rattle.box_index.specs.declared.entry.Entry.{Entry}

abbrev pub same_box : Box4 → Box4 → Bool
same_box a b = int_eq a.min_x b.min_x && (int_eq a.min_y b.min_y && (int_eq a.max_x b.max_x && int_eq a.max_y b.max_y))

box_decides : (a b : Box4) → Decides (same_box a b) (a ≡ b)
box_decides a b =
    let last = Decides-and (int_eq a.max_x b.max_x) (int_eq a.max_y b.max_y) (Decides-int_eq a.max_x b.max_x) (Decides-int_eq a.max_y b.max_y) in
    let rest = Decides-and (int_eq a.min_y b.min_y) (int_eq a.max_x b.max_x && int_eq a.max_y b.max_y) (Decides-int_eq a.min_y b.min_y) last in
    let whole = Decides-and (int_eq a.min_x b.min_x) (int_eq a.min_y b.min_y && (int_eq a.max_x b.max_x && int_eq a.max_y b.max_y)) (Decides-int_eq a.min_x b.min_x) rest in (
      λ same. let p = whole.0 same in λ i. record { min_x = p.0 i; min_y = p.1.0 i; max_x = p.1.1.0 i; max_y = p.1.1.1 i },
      λ e. whole.1 (ap (λ (c : Box4). c.min_x) e, (ap (λ (c : Box4). c.min_y) e, (ap (λ (c : Box4). c.max_x) e, ap (λ (c : Box4). c.max_y) e))),
    )

-- the test by which the code tells
pub entry_decides : (x y : Entry) → (r : Bool) → r ≡ (eqb x.id y.id && same_box x.bounds y.bounds) → Decides r (x ≡ y)
entry_decides x y r is =
    let whole = Decides-and (eqb x.id y.id) (same_box x.bounds y.bounds) (Decides-eqb x.id y.id) (box_decides x.bounds y.bounds) in (
      λ same. let p = whole.0 (sym is ∙ same) in λ i. record { id = p.0 i; bounds = p.1 i },
      λ e. is ∙ whole.1 (ap (λ (z : Entry). z.id) e, ap (λ (z : Entry). z.bounds) e),
    )
