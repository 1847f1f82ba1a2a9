use Rattle.std.proofs.Common.{◌∙◌, arith}
use Rattle.box_index.proofs.Passing.{at_is, past_row, past_column, past_level}
use Rattle.box_index.proofs.walk.Walk.past_cell.Goals as goal

pub returns-then-self-last_row-clause-past : goal.returns-then-self-last_row-clause-past
returns-then-self-last_row-clause-past c = record {
  none = λ r e found meet low.
      let w = c.args.self.now in
      let is = at_is c.at_cell.result _ _ _ c.at_cell.ensures.level c.at_cell.ensures.column c.at_cell.ensures.row c.at_cell.ensures.number in
      omega (arith, is, past_row w c.requires.walk c.requires.done r e found meet low);
}

pub returns-then-self-last_column-clause-past : goal.returns-then-self-last_column-clause-past
returns-then-self-last_column-clause-past c = record {
  none = λ r e found meet low.
      let v = c.at_cell-then-self-last_column in
      let is = at_is v.result _ _ _ v.ensures.level v.ensures.column (v.ensures.row ∙ c.first_row-row.ensures.value) v.ensures.number in
      omega (
        arith,
        is,
        past_column c.args.self.now c.requires.walk c.requires.done r e found meet low
            (omega (arith, c.first_row-row.ensures.value, c.first_row-row.ensures.range)) (omega (arith, c.last_column.ensures.range)) (omega (arith, c.last_row.ensures.value)),
      );
}

pub returns-clause-past : goal.returns-clause-past
returns-clause-past c = record {
  none = λ r e found meet low.
      c.at_level.ensures.past r e found meet
      (past_level c.args.self.now c.requires.walk c.requires.done r e found meet low (omega (arith, c.last_row.ensures.value)) (omega (arith, c.last_column.ensures.value)));
}
