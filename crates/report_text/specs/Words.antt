-- How each word of a line is written.
use Rattle.std.specs.Prelude.{ℕ, List, ◌∷◌, ◌++◌, decimal}
use Rattle.std.specs.List.{flat_map, join_with_byte}
use Rattle.key_tuple.specs.Order.{FieldList}
use Rattle.map_history.specs.Spelling.{statistic_words}
use Rattle.map_history.specs.Statistics.{statistics}
use Rattle.map_history.specs.declared.counts.Counts.{Counts}
use Rattle.map_history.specs.Text.{field_text, key_text, point_text}
use Rattle.report_text.specs.declared.word.Word.{Word}
use Rattle.report_text.specs.declared.word.Word.TheVariants.{Text, Number, Point, Value, Key, Statistics}

-- a text and a number, with a space between
abbrev pub count_text : List ℕ → ℕ → List ℕ
count_text text n = text ++ 32 ∷ decimal n

-- the words of statistics and their numbers, with a space between each two
abbrev pub counts_text : Counts → List ℕ
counts_text counts = join_with_byte 32 (flat_map statistic_words (statistics counts))

-- the bytes of a word, by what the fields of its key are
abbrev pub text_of : {K : Type 0} → (K → FieldList) → Word K → List ℕ
text_of fields_of (Text text) = text.now
text_of fields_of (Number n) = decimal n
text_of fields_of (Point p) = point_text p
text_of fields_of (Value bytes) = field_text bytes.now
text_of fields_of (Key key) = key_text (fields_of key.now)
text_of fields_of (Statistics counts) = counts_text counts.now
