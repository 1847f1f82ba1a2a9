use Rattle.std.proofs.Common.{rules}
use Rattle.script_model.specs.Script.{words_of}
use Rattle.script_reader.specs.Reading.{AreVertices}
use Rattle.script_reader.proofs.VertexWords.{no_line}
use Rattle.script_reader.proofs.vertices.line_of.Goals as goal

pub returns : goal.returns
returns c =
    let are : AreVertices (words_of c.args.words.now) c.in-Some.vertices.items = search rules in
    no_line _ _ are c.in-Err.ensures.short
