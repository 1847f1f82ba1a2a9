-- Room for some writes is room for the first of them, and after it for the rest.
use Rattle.std.proofs.Common.{ℕ, ◌+◌, ◌≤◌, Bool, cond, List, [], ◌∷◌, arith}
use Rattle.std.specs.List.{count_by}
use Rattle.std.proofs.lemmas.List.Sums.{sum_by-cons}
use Rattle.topo_base.specs.declared.write.RowWrite.{RowWrite}
use Rattle.topo_tables.specs.Room.{Room, HasRoom, LeavesRoom, one_if, adds_node, adds_edge, adds_face, adds_layer, adds_feature, adds_relation}

count_first : (p : RowWrite → Bool) (w : RowWrite) (ws : List RowWrite) (m : ℕ) → count_by p (w ∷ ws) ≤ m → count_by p (w ∷ []) ≤ m
count_first p w ws m h = omega (arith, sum_by-cons (λ x. cond (p x) 1 0) w ws, sum_by-cons (λ x. cond (p x) 1 0) w [])

count_rest : (p : RowWrite → Bool) (w : RowWrite) (ws : List RowWrite) (old new : ℕ) → count_by p (w ∷ ws) ≤ old → old ≤ new + one_if (p w) → count_by p ws ≤ new
count_rest p w ws old new h k = omega (arith, sum_by-cons (λ x. cond (p x) 1 0) w ws)

pub room_first : (room : Room) (w : RowWrite) (ws : List RowWrite) → HasRoom room (w ∷ ws) → HasRoom room (w ∷ [])
room_first room w ws h =
    record {
      nodes = count_first adds_node w ws room.nodes h.nodes;
      edges = count_first adds_edge w ws room.edges h.edges;
      faces = count_first adds_face w ws room.faces h.faces;
      layers = count_first adds_layer w ws room.layers h.layers;
      features = count_first adds_feature w ws room.features h.features;
      relations = count_first adds_relation w ws room.relations h.relations;
    }

pub room_rest : (old new : Room) (w : RowWrite) (ws : List RowWrite) → HasRoom old (w ∷ ws) → LeavesRoom w old new → HasRoom new ws
room_rest old new w ws h left =
    record {
      nodes = count_rest adds_node w ws old.nodes new.nodes h.nodes left.nodes;
      edges = count_rest adds_edge w ws old.edges new.edges h.edges left.edges;
      faces = count_rest adds_face w ws old.faces new.faces h.faces left.faces;
      layers = count_rest adds_layer w ws old.layers new.layers h.layers left.layers;
      features = count_rest adds_feature w ws old.features new.features h.features left.features;
      relations = count_rest adds_relation w ws old.relations new.relations h.relations left.relations;
    }
