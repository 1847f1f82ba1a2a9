-- Raw tables as the tables of the definitions.
use Rattle.std.specs.Prelude.{[], ◌∷◌}
use Rattle.topo_base.specs.declared.rows.Counters.{Counters}
use Rattle.drawing.specs.Tables.{Tables, universal_face}
use Rattle.validate_topology.specs.declared.raw.RawTables.{RawTables}

-- face 0, which has no box, stands before the listed faces
abbrev pub tables_in : RawTables → Tables
tables_in r =
    record {
      next_ids = r.next;
      nodes = r.nodes;
      edges = r.edges;
      faces = universal_face ∷ r.faces;
      layers = r.layers;
      features = r.features;
      relations = r.relations;
    }

-- no rows but face 0
abbrev pub no_rows : Counters → RawTables
no_rows next = record { next = next; nodes = []; edges = []; faces = []; layers = []; features = []; relations = [] }
