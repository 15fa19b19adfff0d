-- What is so of a pass that knows more is so of it as it knew less.
use Rattle.std.proofs.Common.{◌≡◌, ℕ, suc, zero, ◌+◌, List, [], ◌∷◌, ◌++◌, sym, ap, subst, ◌∙◌, arith, append_assoc, append-nil}
use mathlib.Core.Option.{some, some-ne-none}
use lib.ListN.{get_elem?}
use Rattle.list_facts.specs.Parts.{StandsOnce}
use Rattle.latch_law.specs.declared.knows.Holding.{Holding}
use Rattle.latch_law.specs.declared.knows.Terms.{Terms}
use Rattle.latch_law.specs.Rule.{Holds}
use Rattle.latch_space.specs.Passes.{view}
use Rattle.index_law.specs.Shape.{Shape}
use Rattle.forest_law.specs.declared.objects.Object.{Object}
use Rattle.forest_law.specs.State.{ForestState}
use Rattle.forest_world.specs.Held.{TreePass}
use Rattle.call_law.specs.Spoken.{OwnAnswer}
use Rattle.buffer_pool.specs.Calls.{DoesSilently}
use Rattle.buffer_pool.specs.Forests.{FitsTrees}
use Rattle.buffer_pool.specs.Pages.{IsLive}

at_left : {X : Type 0} (xs ys : List X) (j : ℕ) (x : X) → get_elem? xs j ≡ some x
    → get_elem? (xs ++ ys) j ≡ some x
at_left [] ys j x at = absurd (some-ne-none x (sym at))
at_left (z ∷ xs) ys zero x at = at
at_left (z ∷ xs) ys (suc j) x at = at_left xs ys j x at

module _ (p q : TreePass) (silently : DoesSilently p q []) where
  same_low : (view q).low ≡ (view p).low
  same_low = silently.does.adds.numbers.low

  same_end : (view q).end ≡ (view p).end
  same_end = silently.does.adds.numbers.end

  same_terms : (view q).terms ≡ (view p).terms
  same_terms = silently.does.adds.numbers.terms

  same_said : (view q).said ≡ (view p).said
  same_said = silently.does.adds.said
      ∙ (ap (λ z. (view p).said ++ z) silently.silent ∙ append-nil (view p).said)

  held_still : (k : ℕ) (h : Holding Object) → Holds (view p) k h → Holds (view q) k h
  held_still k h held = silently.does.rest k tt ∙ held

  said_still : (j : ℕ) (a : OwnAnswer) → get_elem? (view p).said j ≡ some a
      → get_elem? (view q).said j ≡ some a
  said_still j a at = ap (λ z. get_elem? z j) same_said ∙ at

  -- a state that fits it afterwards fits it before
  pub fits_less : (w : ForestState) → FitsTrees w (view q) → FitsTrees w (view p)
  fits_less w f = record {
    shape = f.shape ∙ ap (λ (t : Terms Shape). t.shape) same_terms;
    max_changes = f.max_changes ∙ ap (λ (t : Terms Shape). t.max_changes) same_terms;
    passes = f.passes ∙ ap (λ (t : Terms Shape). t.passes) same_terms;
    counted = (
      f.counted.0 ∙ ap (λ (t : Terms Shape). t.objects) same_terms,
      f.counted.1 ∙ ap (λ (t : Terms Shape). t.objects) same_terms,
      f.counted.2 ∙ ap (λ (t : Terms Shape). t.indexes) same_terms,
      p.all.0,
      p.all.1,
    );
    bounded = f.bounded;
    makers = f.makers;
    numbers = (let a = f.numbers in let e = same_end in
        let t = ap (λ (t : Terms Shape). t.passes) same_terms in omega (arith, a, e, t));
    named = λ k h held. (let a = f.named k h (held_still k h held) in let e = same_end in
        let l = same_low in omega (arith, a, e, l));
    latched = λ k h held. f.latched k h (held_still k h held) ∙ ap (λ n. some (n + 1)) same_low;
    known = λ k h held. f.known k h (held_still k h held);
    only = λ k below at.
        (let has = f.only k (let e = same_end in let l = same_low in omega (arith, below, e, l))
        (at ∙ ap (λ n. some (n + 1)) (sym same_low)) in
        (has.0, sym (silently.does.rest k tt) ∙ has.1));
    seen = λ i xs at. (let more = silently.does.adds.seen i xs at in
        let rest = f.seen i (xs ++ more.0) more.1 in
        (more.0 ++ rest.0, rest.1 ∙ ap some (append_assoc xs more.0 rest.0)));
    signed = λ j a at. (let s = f.signed j a (said_still j a at) in let e = same_end in
        let l = same_low in (omega (arith, s.0, l), omega (arith, s.1, e)));
    within = λ j a at. f.within j a (said_still j a at);
    so = λ j a at. f.so j a (said_still j a at);
    own = λ i n e is low high.
        (let a = f.own i n e is (let l = same_low in omega (arith, low, l))
        (let d = same_end in omega (arith, high, d)) in
        (a.0, ap (λ z. get_elem? z a.0) (sym same_said) ∙ a.1));
    once = λ a change is.
        subst (λ (z : List OwnAnswer). StandsOnce z a) same_said (f.once a change is);
    refers_to = λ j r at. f.refers_to j r
        (ap (λ z. get_elem? z j) silently.does.adds.references
        ∙ at_left (view p).references silently.added.references j r at);
    holds_to = λ k h held. f.holds_to k h (held_still k h held);
  }

  -- so a page that is there is there still
  pub live_still : (n : ℕ) → IsLive (view p) n → IsLive (view q) n
  live_still n live w law fits = live w law (fits_less w fits)
