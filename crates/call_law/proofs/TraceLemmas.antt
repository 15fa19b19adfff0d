-- What calls add, one behind the other.
use Rattle.std.proofs.Common.{◌≡◌, ℕ, true, List, [], ◌∷◌, ◌++◌, append_assoc, append-nil, length-append, sym, ap, subst, ◌∙◌, arith}
use mathlib.Core.Option.{some}
use lib.ListN.{get_elem?}
use Rattle.map_history.specs.Operation.{Ask}
use Rattle.map_history.specs.Report.{Columns, Answer, SpaceFull}
use Rattle.map_history.specs.LegalReport.{has_form}
use Rattle.index_law.specs.Answers.{Where}
use Rattle.index_law.specs.Rightness.{AsksToWrite}
use Rattle.call_law.specs.Spoken.{View, OwnAnswer, spoken_at, spoken, sayings}
use Rattle.call_law.specs.Trace.{SameNumbers, SeesMore, Added, Adds, IsOnlySaid, AreGivenAt, full_places, fulls}
use Rattle.call_law.specs.Once.{IsQuiet, HasFulls, IsRightBy, AnswersOnce}

-- answers of two calls are printed one behind the other
pub spoken-append : (qs rs : List OwnAnswer) → spoken (qs ++ rs) ≡ spoken qs ++ spoken rs
spoken-append [] rs = λ _. spoken rs
spoken-append (q ∷ qs) rs = ap (λ z. spoken_at q ++ z) (spoken-append qs rs)
    ∙ sym (append_assoc (spoken_at q) (spoken qs) (spoken rs))

-- and so are their fulls
pub fulls-append : (qs rs : List OwnAnswer) → fulls (qs ++ rs) ≡ fulls qs ++ fulls rs
fulls-append [] rs = λ _. fulls rs
fulls-append (q ∷ qs) rs = ap (λ z. full_places q.what ++ z) (fulls-append qs rs)
    ∙ sym (append_assoc (full_places q.what) (fulls qs) (fulls rs))

pub given_both : (i n : ℕ) (qs rs : List OwnAnswer) → AreGivenAt i n qs → AreGivenAt i n rs
    → AreGivenAt i n (qs ++ rs)
given_both i n [] rs first second = second
given_both i n (q ∷ qs) rs first second = (first.0, given_both i n qs rs first.1 second)

pub same_numbers : (v v0 v1 : View) → SameNumbers v v0 → SameNumbers v0 v1 → SameNumbers v v1
same_numbers v v0 v1 a b =
    record { low = b.low ∙ a.low; end = b.end ∙ a.end; terms = b.terms ∙ a.terms }

pub sees_more : (v v0 v1 : View) → SeesMore v v0 → SeesMore v0 v1 → SeesMore v v1
sees_more v v0 v1 a b j ys at = let one = a j ys at in let two = b j (ys ++ one.0) one.1 in
    (one.0 ++ two.0, two.1 ∙ ap some (append_assoc ys one.0 two.0))

-- both of two additions
abbrev pub both_added : Added → Added → Added
both_added a b = record {
  said = a.said ++ b.said;
  refused = a.refused ++ b.refused;
  references = a.references ++ b.references;
}

-- of two lists behind a third
behind : {X : Type 0} (was xs ys now more : List X) → now ≡ was ++ xs → more ≡ now ++ ys
    → more ≡ was ++ (xs ++ ys)
behind was xs ys now more first second =
    second ∙ (ap (λ z. z ++ ys) first ∙ append_assoc was xs ys)

pub adds_both : (v v0 v1 : View) (a b : Added) → Adds v v0 a → Adds v0 v1 b
    → Adds v v1 (both_added a b)
adds_both v v0 v1 a b first second = record {
  numbers = same_numbers v v0 v1 first.numbers second.numbers;
  said = behind v.said a.said b.said v0.said v1.said first.said second.said;
  refused = behind v.refused a.refused b.refused v0.refused v1.refused first.refused second.refused;
  references = behind v.references a.references b.references v0.references v1.references
      first.references second.references;
  seen = sees_more v v0 v1 first.seen second.seen;
}

-- two calls that said something alone did nothing else together
pub only_both : (a b : Added) → IsOnlySaid a → IsOnlySaid b → IsOnlySaid (both_added a b)
only_both a b first second = record {
  refused = (λ k. first.refused k ++ second.refused k);
  references = (λ k. first.references k ++ second.references k);
}

-- nothing was answered, and then nothing
unfoldable pub quiet_both : (v v0 v1 : View) (i : ℕ) → IsQuiet v v0 i → IsQuiet v0 v1 i
    → IsQuiet v v1 i
quiet_both v v0 v1 i a b = record {
  added = both_added a.added b.added;
  adds = adds_both v v0 v1 a.added b.added a.adds b.adds;
  given = given_both i v.low a.added.said b.added.said a.given
      (subst (λ n. AreGivenAt i n b.added.said) a.adds.numbers.low b.given);
  said = spoken-append a.added.said b.added.said ∙ (λ k. a.said k ++ b.said k);
  fulls = fulls-append a.added.said b.added.said ∙ (λ k. a.fulls k ++ b.fulls k);
}

-- what was silent answered nothing
unfoldable pub quiet_of : (v v' : View) (i : ℕ) (a : Added) → Adds v v' a → a.said ≡ []
    → IsQuiet v v' i
quiet_of v v' i a adds silent = record {
  added = a;
  adds = adds;
  given = subst (AreGivenAt i v.low) (sym silent) tt;
  said = ap spoken silent;
  fulls = ap fulls silent;
}

-- a full was said, and then the word for want of a page, with no other
unfoldable pub full_then_word : (v v0 v1 : View) (i : ℕ) (ask : Ask) (columns : Columns)
    (places : List Where) (a b : Added) → Adds v v0 a → Adds v0 v1 b → AreGivenAt i v.low a.said
    → AreGivenAt i v.low b.said → spoken a.said ≡ [] → fulls a.said ≡ places ∷ []
    → spoken b.said ≡ sayings i v.low ask (SpaceFull columns) → fulls b.said ≡ []
    → has_form ask (SpaceFull columns) ≡ true → AsksToWrite ask
    → AnswersOnce v v1 i ask (SpaceFull columns)
full_then_word v v0 v1 i ask columns places a b first second here there silent full word none form
    writes = record {
      added = both_added a b;
      adds = adds_both v v0 v1 a b first second;
      given = given_both i v.low a.said b.said here there;
      said = spoken-append a.said b.said ∙ (ap (λ z. z ++ spoken b.said) silent ∙ word);
      fulls = (places, fulls-append a.said b.said ∙ (λ k. full k ++ none k));
      form = form;
      least = λ m ys among at. absurd (let below = among.1 in omega (arith, below));
      most = λ m zs among at. absurd (let below = among.1 in omega (arith, below));
      right = λ zs at. writes;
    }

module _ (i : ℕ) (ask : Ask) (answer : Answer) where
  -- nothing was answered, and then the operation was
  unfoldable pub quiet_then_once : (v v0 v1 : View) → IsQuiet v v0 i
      → AnswersOnce v0 v1 i ask answer → AnswersOnce v v1 i ask answer
  quiet_then_once v v0 v1 quiet once = record {
    added = both_added quiet.added once.added;
    adds = adds_both v v0 v1 quiet.added once.added quiet.adds once.adds;
    given = given_both i v.low quiet.added.said once.added.said quiet.given
        (subst (λ n. AreGivenAt i n once.added.said) quiet.adds.numbers.low once.given);
    said = spoken-append quiet.added.said once.added.said
        ∙ (λ k. quiet.said k
        ++ (once.said ∙ ap (λ n. sayings i n ask answer) quiet.adds.numbers.low) k);
    fulls = subst (HasFulls answer)
        (sym (fulls-append quiet.added.said once.added.said
        ∙ ap (λ z. z ++ fulls once.added.said) quiet.fulls)) once.fulls;
    form = once.form;
    least = λ m ys among at. (let more = quiet.adds.seen i ys at in
        let long = once.least m (ys ++ more.0) among more.1 in
        omega (arith, long, length-append ys more.0));
    most = once.most;
    right = λ zs at. subst (λ t. IsRightBy t.max_changes zs ask answer) quiet.adds.numbers.terms
        (once.right zs at);
  }

  -- the operation was answered, and then nothing was said, and no more of the lists was seen
  unfoldable pub once_then_silent : (v v0 v1 : View) (b : Added) → AnswersOnce v v0 i ask answer
      → Adds v0 v1 b → b.said ≡ [] → v1.seen ≡ v0.seen → AnswersOnce v v1 i ask answer
  once_then_silent v v0 v1 b once adds silent seen =
      let no_more = ap (λ z. once.added.said ++ z) silent ∙ append-nil once.added.said in record {
        added = both_added once.added b;
        adds = adds_both v v0 v1 once.added b once.adds adds;
        given = given_both i v.low once.added.said b.said once.given
            (subst (AreGivenAt i v.low) (sym silent) tt);
        said = ap spoken no_more ∙ once.said;
        fulls = subst (λ z. HasFulls answer (fulls z)) (sym no_more) once.fulls;
        form = once.form;
        least = once.least;
        most = λ m zs among at. once.most m zs among (ap (λ z. get_elem? z i) (sym seen) ∙ at);
        right = λ zs at. once.right zs (ap (λ z. get_elem? z i) (sym seen) ∙ at);
      }

  -- what is printed of the pass has the answer behind the others
  pub once_said : (v v' : View) → AnswersOnce v v' i ask answer
      → spoken v'.said ≡ spoken v.said ++ sayings i v.low ask answer
  once_said v v' once = ap spoken once.adds.said
      ∙ (spoken-append v.said once.added.said ∙ ap (λ z. spoken v.said ++ z) once.said)
