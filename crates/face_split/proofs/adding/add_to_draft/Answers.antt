use Rattle.std.proofs.Common.{arith, ap, refl, ◌∙◌}
use Rattle.topo_base.specs.declared.rows.Counters.{Counters}
use Rattle.drawing.specs.Tables.{Tables, drawn}
use Rattle.read_set.specs.Drafted.{Drafted}
use Rattle.edge_links.specs.LinksLaw.{IsComing}
use Rattle.face_split.proofs.AddedRows.{can_add, rows_added}
use Rattle.face_split.proofs.adding.add_to_draft.Goals as goal

pub write_all-requires : goal.write_all-requires
write_all-requires g c =
    let S = drawn c.args.tables.now.rows in
    let next = ap (λ (n : Counters). n.edge) c.counters.ensures in
    let coming : IsComing S c.args.start.now c.args.end.now c.args.line.now c.args.face c.counters.result.edge c.args.start.now.node_id c.args.end.now.node_id =
    record { ordered = c.requires.ringed.rings.plain; plain = c.requires.plain; next = next; starts = refl; ends = refl } in
    let is = c.in_ok-writes.ensures.writes c.args.start.now c.args.end.now coming in
    record {
      can = can_add S c.in_ok-draft.draft.rows c.args.start.now c.args.end.now c.args.line.now c.args.face c.in_ok-writes.writes
          (ap (λ (d : Drafted). d.rows) c.in_ok-draft.ensures.copied ∙ c.requires.stands) is (record {
            ordered = c.requires.ringed.rings.plain;
            plain = c.requires.plain;
            at_start = c.in_ok-writes.ensures.start;
            at_end = c.in_ok-writes.ensures.end;
            long = c.vertices.ensures.some;
            start = c.requires.start;
            end = c.requires.end;
            face = c.requires.face;
            more = omega (arith, c.requires.ready.edge_more);
          });
    }

pub returns-clause-rows : goal.returns-clause-rows
returns-clause-rows g c =
    let S = drawn c.args.tables.now.rows in
    let next = ap (λ (n : Counters). n.edge) c.counters.ensures in
    let coming : IsComing S c.args.start.now c.args.end.now c.args.line.now c.args.face c.counters.result.edge c.args.start.now.node_id c.args.end.now.node_id =
    record { ordered = c.requires.ringed.rings.plain; plain = c.requires.plain; next = next; starts = refl; ends = refl } in
    let is = c.in_ok-writes.ensures.writes c.args.start.now c.args.end.now coming in
    let made = ap (λ (d : Drafted). d.rows) c.in_ok-write_all.ensures.made in
    rows_added S c.in_ok-draft.draft.rows c.write_all.new.self.rows c.args.start.now c.args.end.now c.args.line.now c.args.face c.in_ok-writes.writes
    (ap (λ (d : Drafted). d.rows) c.in_ok-draft.ensures.copied ∙ c.requires.stands) is made (record {
      ordered = c.requires.ringed.rings.plain;
      plain = c.requires.plain;
      at_start = c.in_ok-writes.ensures.start;
      at_end = c.in_ok-writes.ensures.end;
      long = c.vertices.ensures.some;
      start = c.requires.start;
      end = c.requires.end;
      face = c.requires.face;
      more = omega (arith, c.requires.ready.edge_more);
    })
