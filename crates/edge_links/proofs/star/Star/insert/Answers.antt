use Rattle.std.proofs.Common.{◌≡◌, ℕ, ◌≤◌, length, vec_len, ap, sym, ◌∙◌, arith}
use Rattle.edge_links.proofs.star.Star.insert.Goals as goal

-- the index is within a list as long as the one in which it was found
within_room : (index found other own room : ℕ) → index ≤ found → found ≡ other → own ≡ other → room ≡ own → index ≤ room
within_room index found other own room h e f g = omega arith

pub insert-requires : goal.insert-requires
insert-requires c =
    let same : length c.self.inside.darts.items ≡ length c.self.inside.dirs.items = c.self.invariant.0 in
    within_room c.place_for-index.result (length c.deref.result.now) (length c.self.inside.dirs.items) (length c.self.inside.darts.items) (vec_len c.reserve.new.self)
    c.place_for-index.ensures.within (ap length c.deref.ensures.value) same (c.reserve.ensures.len ∙ c.self.inside.darts.ok.0)

pub insert-requires-2 : goal.insert-requires-2
insert-requires-2 c =
    within_room c.place_for-index.result (length c.deref.result.now) (vec_len c.self.inside.dirs) (vec_len c.self.inside.dirs) (vec_len c.reserve-2.new.self)
    c.place_for-index.ensures.within c.deref.ensures.len (sym c.deref.ensures.len ∙ c.deref.ensures.len) c.reserve-2.ensures.len
