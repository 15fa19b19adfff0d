-- A line that says something is its words.
use Rattle.std.proofs.Common.{◌≡◌, ℕ, List, false, refl, sym}
use Rattle.script.specs.Grammar.{says_nothing, line_words}
use Rattle.script.specs.Pieces.{pieces_left}
use Rattle.script.specs.Schema.{SchemaDraft, after_words, schema_line}
use Rattle.script.specs.Views.{draft_view}
use Rattle.script.proofs.draft.Draft.take_line.Goals as goal

line_said : (d : SchemaDraft) (line : List ℕ) (words : List (List ℕ)) → false ≡ says_nothing line → words ≡ line_words line → schema_line d line ≡ after_words d words
unfolding schema_line
line_said d line words loud are = rw (sym loud, are) refl

pub returns : goal.returns
returns c = rw (line_said (draft_view c.args.self.now) c.args.line.now (pieces_left c.new.result) c.if-is_silent.ensures c.new.ensures) c.take_words.ensures
