-- The row writes of a split, joined from parts.
use Rattle.std.proofs.Common.{◌≡◌, ℕ, true, ◌∙◌, ap, List, [], ◌∷◌, ◌++◌, None}
use Rattle.topo_base.specs.Point.{Point}
use Rattle.topo_base.specs.declared.rows.EdgeRow.{EdgeRow}
use Rattle.topo_base.specs.declared.write.Hand.TheVariants.{Left}
use Rattle.topo_base.specs.declared.write.RowId.TheVariants.{Old}
use Rattle.topo_base.specs.declared.write.RowWrite.{RowWrite}
use Rattle.topo_base.specs.declared.write.RowWrite.TheVariants.{AddNode, SetLine, SetNext}
use Rattle.plane.specs.Line.{line_up_to}
use Rattle.edge_split.specs.Renamed.{renamed}
use Rattle.edge_split.specs.Relinks.{all_relinks}
use Rattle.edge_split.specs.Writes.{dart_named, first_write, last_writes, mod_writes, new_writes, second_write}

pub mod_joined : (rows given : List EdgeRow) (r : EdgeRow) (p : Point) (line : List Point) (n edge first new : ℕ) (front mid all : List RowWrite) → edge ≡ r.edge_id → first ≡ r.edge_id → line ≡ line_up_to p r.geom
    → front ≡ AddNode (Old n) None p ∷ second_write r p n first new ∷ [] → given ≡ rows → mid ≡ front ++ all_relinks (renamed edge first new) given
    → all ≡ mid ++ SetLine (Old r.edge_id) (Old r.start_node) (Old n) line ∷ SetNext (Old first) Left (dart_named new true) ∷ [] → all ≡ mod_writes rows r p n new
mod_joined rows given r p line n edge first new front mid all own same lined begun listed linked ended =
    ended
    ∙ ap (λ (ws : List RowWrite). ws ++ SetLine (Old r.edge_id) (Old r.start_node) (Old n) line ∷ SetNext (Old first) Left (dart_named new true) ∷ []) (linked ∙ (λ i. begun i ++ all_relinks (renamed edge first new) (listed i)))
    ∙ (λ i. AddNode (Old n) None p ∷ second_write r p n (same i) new
    ∷ (all_relinks (renamed (own i) (same i) new) rows ++ SetLine (Old r.edge_id) (Old r.start_node) (Old n) (lined i) ∷ SetNext (Old (same i)) Left (dart_named new true) ∷ []))

pub new_joined : (rows given : List EdgeRow) (r : EdgeRow) (p : Point) (n edge first second : ℕ) (front mid all : List RowWrite) → edge ≡ r.edge_id
    → front ≡ AddNode (Old n) None p ∷ first_write r p n first ∷ second_write r p n first second ∷ [] → given ≡ rows → mid ≡ front ++ all_relinks (renamed edge first second) given
    → all ≡ mid ++ last_writes r first second → all ≡ new_writes rows r p n first second
new_joined rows given r p n edge first second front mid all own begun listed linked ended =
    ended
    ∙ ap (λ (ws : List RowWrite). ws ++ last_writes r first second) (linked ∙ (λ i. begun i ++ all_relinks (renamed edge first second) (listed i)))
    ∙ (λ i. AddNode (Old n) None p ∷ first_write r p n first ∷ second_write r p n first second ∷ (all_relinks (renamed (own i) first second) rows ++ last_writes r first second))
