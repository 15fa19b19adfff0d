-- The rule holds at the start.
use Rattle.std.proofs.Common.{◌≡◌, ℕ, ◌<◌, List, [], ◌∷◌, map, length, get_or, replicate, sym, ap, ◌∙◌, subst, le_refl, append-nil}
use mathlib.Core.Option.{some, some-ne-none}
use lib.ListN.{get_elem?, length-replicate}
use Rattle.atomic_table.specs.Table.{opening}
use Rattle.atomic_table.proofs.Lists.{at_map, at_longer}
use Rattle.learning.specs.Bounds.{IsInfoOf}
use Rattle.learning.specs.Word.{word_of, FitsWord}
use Rattle.search_info.specs.declared.knows.Entry.{Entry}
use Rattle.search_info.specs.declared.knows.Knows.{Knows}
use Rattle.search_info.specs.declared.knows.Opening.{Opening}
use Rattle.search_info.specs.declared.law.Settings.{Settings}
use Rattle.search_info.specs.History.{Start, History, AreStarts, IsHistory, known_after}
use Rattle.search_info.specs.Rule.{KeptWords, FitsHistory, opening_of, knows_first, first_knows, first_words, times_made}
use Rattle.list_facts.specs.Growing.{IsListed}
use Rattle.list_facts.proofs.Places.{replicate_is, single, there, reads}

module _ (o : Opening) (starts : AreStarts o.starts) where
  abbrev Empty : History
  Empty = replicate (length o.starts) []

  no_entry : (i n : ℕ) (e : Entry) → IsListed Empty i n e → ⊥
  no_entry i n e entry = some-ne-none e (sym (ap (λ (z : List Entry). get_elem? z n) (replicate_is (length o.starts) i [] entry.0 entry.1) ∙ entry.2))

  pub first_history : IsHistory o Empty
  first_history = record {
    all = length-replicate (length o.starts) [];
    starts = starts;
    makers = λ i n e entry. absurd (no_entry i n e entry);
    events = λ i n e s entry _. absurd (no_entry i n e entry);
    infos = λ i s xs at list. subst (λ (z : List Entry). IsInfoOf s.1 (known_after s z)) (replicate_is (length o.starts) i [] xs list) (starts i s at).info;
  }

  pub first_fits : FitsHistory Empty (first_knows o)
  first_fits = record {
    history = first_history;
    all = length-replicate (length o.starts) [];
    numbers = le_refl o.passes;
    seen = λ i xs e. ([], e ∙ ap some (sym (append-nil xs)));
    mine = λ j q e. absurd (some-ne-none q (sym e));
    so = λ j q e. absurd (some-ne-none q (sym e));
    own = λ i n e entry _ _. absurd (no_entry i n e entry);
    once = λ i n xs list _ _. ap (times_made n) (replicate_is (length o.starts) i [] xs list);
  }

pub begins : (t : Settings) → AreStarts t.starts.items → KeptWords t (opening (first_words t.starts.items) [] (knows_first t))
begins t starts = let o : Opening = opening_of t in record {
  lists = replicate (length t.starts.items) [];
  history = first_history o starts;
  words = λ i s xs at list. subst (λ (z : List Entry). get_elem? (first_words t.starts.items) i ≡ some (word_of (known_after s z))) (replicate_is (length t.starts.items) i [] xs list)
      (at_longer (map (λ (z : Start). word_of z.0) t.starts.items) (0 ∷ []) i (word_of s.0) (at_map (λ (z : Start). word_of z.0) t.starts.items i s at));
  same = λ j v e _. ap (λ (z : Knows). z.opening) (sym (single (knows_first t) v j e).1);
  each = λ j v e _. subst (FitsHistory (replicate (length t.starts.items) [])) (single (knows_first t) v j e).1 (first_fits o starts);
  apart = λ i j u v differ e f _ _. absurd (differ ((single (knows_first t) u i e).0 ∙ sym (single (knows_first t) v j f).0));
}

pub start_fits : (starts : List Start) (i : ℕ) (d : Start) → AreStarts starts → i < length starts → FitsWord (get_or starts i d).0
start_fits starts i d all h = let s = there starts i h in subst (λ (z : Start). FitsWord z.0) (sym (reads starts i s.0 d s.1)) (all i s.0 s.1).info.fits
