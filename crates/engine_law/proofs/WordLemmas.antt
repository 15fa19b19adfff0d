-- The word of a reply, and the map at the end of a list.
use Rattle.std.proofs.Common.{◌≡◌, ℕ, length, ap, arith, Some}
use Rattle.std.proofs.lemmas.List.{length-map, take_all}
use Rattle.latch_law.specs.declared.knows.Entry.{Entry}
use Rattle.map_history.specs.declared.reply.Reply.{Reply}
use Rattle.map_history.specs.declared.reply.Reply.TheVariants as words
use Rattle.map_history.specs.Map.{Pair, Map, map_after}
use Rattle.map_history.specs.Operation.{Ask}
use Rattle.map_history.specs.Reply.{reply_of}
use Rattle.map_history.specs.Told.{Says}
use Rattle.index_law.specs.Answers.{MadeChange, Gives}
use Rattle.index_law.specs.Meanings.{reply_word, gives}
use Rattle.index_law.specs.Rightness.{map_at}
use Rattle.index_law.specs.State.{Entries, changes}

-- a word that says what the map replies
pub says_word : (m : Map) (ask : Ask) (reply : Reply) (row : Pair) → Says m ask reply row
    → reply_word ask reply row ≡ Some (Gives (reply_of m ask))
says_word m ask words.Found row says = ap gives says
says_word m ask words.Absent row says = ap gives says
says_word m ask words.Ok row says = ap gives says
says_word m ask words.Duplicate row says = ap gives says
says_word m ask words.SpaceFull row says = absurd cc
says_word m ask (words.LogFull n) row says = absurd cc

-- a list is what it is after all of its changes
pub map_at_end : (xs : Entries) → map_at xs (length xs) ≡ map_after (changes xs)
map_at_end xs = let same : length (changes xs) ≡ length xs =
    length-map xs (λ (e : Entry MadeChange). e.change.change) in
    ap map_after (take_all (length xs) (changes xs) (omega (arith, same)))
