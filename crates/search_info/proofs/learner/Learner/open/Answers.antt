use Rattle.std.proofs.Common.{◌≡◌, ◌∙◌, ◌+◌, ◌∷◌, [], sym, subst, ap, List, ℕ, length, map}
use Rattle.std.proofs.lemmas.List.{length-append, length-map}
use Rattle.std.proofs.lemmas.Result.{IfOk-from_err}
use lib.ListN.{length-replicate}
use Rattle.atomic_table.specs.Table.{Me, opening}
use Rattle.learning.specs.Word.{word_of}
use Rattle.search_info.specs.declared.knows.Knows.{Knows}
use Rattle.search_info.specs.declared.law.Settings.{Settings}
use Rattle.search_info.specs.History.{Start, AreStarts}
use Rattle.search_info.specs.Rule.{KeptWords, knows_first, first_words}
use Rattle.search_info.proofs.OpeningLemmas.{begins}
use Rattle.search_info.proofs.learner.Learner.open.Goals as goal

-- the opening words are one more than the indexes
words_counted : (starts : List Start) → length (first_words starts) ≡ length starts + 1
words_counted starts = let word : Start → ℕ = λ s. word_of s.0 in
    length-append (map word starts) (0 ∷ []) ∙ ap (λ n. n + 1) (length-map starts word)

pub first_words_of-requires : goal.first_words_of-requires
first_words_of-requires c = subst AreStarts (sym (c.as_slice.ensures.value ∙ c.in_ok-starts.ensures)) c.requires.starts

pub of_words-requires : goal.of_words-requires
of_words-requires c = let t : Settings = record { starts = c.in_ok-starts.starts; passes = c.args.passes } in
    subst (λ (ws : List ℕ). KeptWords t (opening ws [] (knows_first t))) (sym (c.as_slice-2.ensures.value ∙ (c.in_ok-words.ensures ∙ ap first_words c.as_slice.ensures.value)))
    (begins t (subst AreStarts (sym c.in_ok-starts.ensures) c.requires.starts))

pub invariant_of-learner : goal.invariant_of-learner
invariant_of-learner c = record {
  keyed = c.in_ok-table.ensures.5;
  words = c.in_ok-table.ensures.0
      ∙ (ap length (c.as_slice-2.ensures.value
      ∙ (c.in_ok-words.ensures ∙ ap first_words c.as_slice.ensures.value))
      ∙ words_counted c.in_ok-starts.starts.items);
}

pub invariant_of-pass : goal.invariant_of-pass
invariant_of-pass c = let first = c.in_ok-table.ensures.4 in record {
  numbers = (
    ap (λ (m : Me ℕ Knows). m.0.low) (sym first),
    ap (λ (m : Me ℕ Knows). m.0.end) (sym first),
    c.requires.one,
  );
  all = ap (λ (m : Me ℕ Knows). length m.0.seen) first ∙ length-replicate _ []
      ∙ ap (λ (m : Me ℕ Knows). length m.0.opening.starts) (sym first);
  nothing = ap (λ (m : Me ℕ Knows). m.1) first;
}

pub returns-clause-opening : goal.returns-clause-opening
returns-clause-opening c = ap (λ (starts : List Start). record { starts = starts; passes = c.args.passes }) c.in_ok-starts.ensures

pub returns-clause-own : goal.returns-clause-own
returns-clause-own c = let told = c.in_ok-table.ensures in
    (told.2, ap (λ (m : Me ℕ Knows). m.0.opening) told.4)

pub returns-clause-pass : goal.returns-clause-pass
returns-clause-pass c = ap (λ (m : Me ℕ Knows). m.0) c.in_ok-table.ensures.4

pub returns-in_err-starts : goal.returns-in_err-starts
returns-in_err-starts c = let none = c.from_residual.ensures.0 in record {
  opening = IfOk-from_err _ _ none;
  own = IfOk-from_err _ _ none;
  pass = IfOk-from_err _ _ none;
}

pub returns-in_err-words : goal.returns-in_err-words
returns-in_err-words c = let none = c.from_residual-in_err-words.ensures.0 in record {
  opening = IfOk-from_err _ _ none;
  own = IfOk-from_err _ _ none;
  pass = IfOk-from_err _ _ none;
}

pub returns-in_err-table : goal.returns-in_err-table
returns-in_err-table c = let none = c.from_residual-in_err-table.ensures.0 in record {
  opening = IfOk-from_err _ _ none;
  own = IfOk-from_err _ _ none;
  pass = IfOk-from_err _ _ none;
}
