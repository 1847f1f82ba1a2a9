-- The last writes where faces become one: the box of the face that is kept, and the faces that go.
use Rattle.std.specs.Prelude.{ℕ, List, ◌++◌, map}
use Rattle.topo_base.specs.declared.write.RowId.TheVariants.{Old}
use Rattle.topo_base.specs.declared.write.RowWrite.{RowWrite}
use Rattle.topo_base.specs.declared.write.RowWrite.TheVariants.{DropFace}
use Rattle.drawing.specs.Tables.{Tables, drawn, face_box}
use Rattle.face_boxes.specs.Bounds.{box_write}

abbrev pub drop_face : ℕ → RowWrite
drop_face f = DropFace (Old f)

abbrev pub last_writes : Tables → ℕ → List ℕ → List RowWrite
last_writes t kept gone = box_write kept (face_box (drawn t) kept) ++ map drop_face gone
