-- The stamp of an element: the place of the last entry that changed its content, or with which it came.
use Rattle.std.specs.Prelude.{ℕ, ◌+◌, Bool, List, [], ◌∷◌, is_some, if◌then◌else◌}
use Rattle.std.specs.Option.{option_eq}
use Rattle.topo_base.specs.declared.edit.Entry.{Entry}
use Rattle.topo_base.specs.declared.element.Element.{Element}
use Rattle.drawing.specs.Drawing.{Drawing, nothing_drawn}
use Rattle.drawing.specs.Replay.{after}
use Rattle.drawing.specs.Content.{content_of}
use Rattle.drawing.specs.SameContent.{same_content}

-- the element has one content in both drawings, or is in neither
abbrev pub stays : Element → Drawing → Drawing → Bool
stays x S T = option_eq same_content (content_of S x) (content_of T x)

-- the stamp after more entries, where it is this one at this place
abbrev pub stamp_from : Element → Drawing → ℕ → ℕ → List Entry → ℕ
stamp_from x S place stamp [] = stamp
stamp_from x S place stamp (e ∷ es) =
    stamp_from x (after S e.edit) (place + 1) (if stays x S (after S e.edit) then stamp else place + 1) es

-- the stamp of an element after a history, and 0 where it has none because it is not there
abbrev pub stamp : List Entry → Element → ℕ
stamp history x = stamp_from x nothing_drawn 0 0 history

abbrev pub stamp_now : Drawing → List Entry → Element → ℕ
stamp_now S history x = if is_some (content_of S x) then stamp history x else 0
