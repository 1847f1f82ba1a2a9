-- What the words of a line spell.
use Rattle.std.specs.Prelude.{◌≡◌, ℕ, ◌≤◌, length, Bool, false, ◌&&◌, IsTrue, List, [], ◌∷◌, Option, Some, None, codes, flat_map}
use Rattle.std.specs.List.{list_all}
use Rattle.std.specs.Fmt.{signed_decimal}
use Rattle.topo_base.specs.Names.{is_name}
use Rattle.topo_base.specs.Point.{Point, IsOnGrid}
use Rattle.topo_base.specs.ScriptLines.{ScriptLine}
use Rattle.topo_base.specs.declared.named.IdWord.{IdWord}
use Rattle.topo_base.specs.declared.named.NamedPair.{NamedPair}
use Rattle.topo_base.specs.declared.named.NamedEdit.{NamedEdit}
use Rattle.drawing.specs.InRange.{is_grid_point}
use Rattle.script_model.specs.NamedRange.{is_id_word, is_option_id_word, is_named_pair, is_new_line, is_named_edit, is_script_line}
use Rattle.script_model.specs.NamedWords.{id_word, option_id_word, named_pair_words, named_words, names_words, script_words}
use Rattle.script_model.specs.Words.{point_words, line_words}
use Rattle.script_model.specs.Script.{IsLine, IsGood, is_skipped}
use Rattle.script_reader.specs.declared.read.Reading.{Reading}
use Rattle.script_reader.specs.declared.read.Reading.TheVariants.{Skipped, Edit, Bad}

-- a value of which P holds was found, or there is none
abbrev pub Finds : {A : Type 0} → (A → Type 0) → Option A → Type 0
Finds P (Some x) = P x
Finds {A = A} P None = (x : A) → P x → ⊥

-- the word is that of this id
pub record IsIdWord (word : List ℕ) (w : IdWord) : Type 0 where
  pub good : IsTrue (is_id_word w)
  pub spelled : word ≡ id_word w

-- the word is that of this id, or of none
pub record IsOptionIdWord (word : List ℕ) (w : Option IdWord) : Type 0 where
  pub good : IsTrue (is_option_id_word w)
  pub spelled : word ≡ option_id_word w

-- the words are the coordinates of a grid point
pub record IsPoint (x y : List ℕ) (p : Point) : Type 0 where
  pub grid : IsOnGrid p
  pub x_is : x ≡ signed_decimal p.x
  pub y_is : y ≡ signed_decimal p.y

-- the words are the coordinates of at most 4096 grid points
pub record AreVertices (words : List (List ℕ)) (vertices : List Point) : Type 0 where
  pub good : IsTrue (list_all is_grid_point vertices)
  pub few : length vertices ≤ 4096
  pub spelled : words ≡ line_words vertices

-- the words are the vertices of a line that an edit may have
pub record IsNewLine (words : List (List ℕ)) (line : List Point) : Type 0 where
  pub good : IsTrue (is_new_line line)
  pub spelled : words ≡ line_words line

-- the words are two ids and the vertices of a line that an edit may have
pub record AreEndsAndLine (words : List (List ℕ)) (a b : IdWord) (line : List Point) : Type 0 where
  pub good : IsTrue (is_id_word a && is_id_word b && is_new_line line)
  pub spelled : words ≡ id_word a ∷ id_word b ∷ line_words line

-- the words are an id and a point
pub record AreIdAndPoint (words : List (List ℕ)) (a : IdWord) (p : Point) : Type 0 where
  pub good : IsTrue (is_id_word a && is_grid_point p)
  pub spelled : words ≡ id_word a ∷ point_words p

-- the words are two ids
pub record AreTwoIds (words : List (List ℕ)) (a b : IdWord) : Type 0 where
  pub good : IsTrue (is_id_word a && is_id_word b)
  pub spelled : words ≡ id_word a ∷ id_word b ∷ []

-- the words are three ids
pub record AreThreeIds (words : List (List ℕ)) (a b c : IdWord) : Type 0 where
  pub good : IsTrue (is_id_word a && is_id_word b && is_id_word c)
  pub spelled : words ≡ id_word a ∷ id_word b ∷ id_word c ∷ []

-- the words are the id and the type of an element
pub record IsPair (id type : List ℕ) (x : NamedPair) : Type 0 where
  pub good : IsTrue (is_named_pair x)
  pub id_is : id ≡ id_word x.id
  pub type_is : type ≡ id_word x.element_type

-- the words are those of at most 4096 elements
pub record ArePairs (words : List (List ℕ)) (xs : List NamedPair) : Type 0 where
  pub good : IsTrue (list_all is_named_pair xs)
  pub few : length xs ≤ 4096
  pub spelled : words ≡ flat_map named_pair_words xs

-- the word and = are those of these names
pub record AreNames (word : List ℕ) (names : List (List ℕ)) : Type 0 where
  pub good : IsTrue (list_all is_name names)
  pub spelled : word ∷ codes "=" ∷ [] ≡ names_words names

-- the words are those of an edit that a script can spell, of this kind
pub record IsEditIn (is_one : NamedEdit → Bool) (words : List (List ℕ)) (e : NamedEdit) : Type 0 where
  pub good : IsTrue (is_named_edit e && is_one e)
  pub spelled : words ≡ named_words e

-- or of any
pub record IsEdit (words : List (List ℕ)) (e : NamedEdit) : Type 0 where
  pub good : IsTrue (is_named_edit e)
  pub spelled : words ≡ named_words e

-- the words are those of a line
pub record AreWordsOf (words : List (List ℕ)) (l : ScriptLine) : Type 0 where
  pub good : IsTrue (is_script_line l)
  pub spelled : words ≡ script_words l

-- what a line is read as
abbrev pub IsReading : List ℕ → Reading → Type 0
IsReading line Skipped = IsTrue (is_skipped line)
IsReading line (Edit l) = (is_skipped line ≡ false) × IsLine is_script_line line l
IsReading line Bad = IsGood is_script_line line → ⊥
