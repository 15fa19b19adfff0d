-- What a block learns suits its leaf.
use Rattle.std.proofs.Common.{◌≡◌, ℕ, ◌≤◌, Bool, true, false, cond, sym, ap, subst, ◌∙◌, refl, Option, Some}
use Rattle.std.specs.Prelude.{is_some}
use Rattle.key_tuple.specs.declared.mode.Params.{Params}
use Rattle.key_tuple.specs.Fold.{asked_fields}
use Rattle.learning.specs.declared.info.Info.{Info}
use Rattle.learning.specs.declared.event.BlockFigures.{BlockFigures}
use Rattle.learning.specs.declared.event.Descent.{Descent}
use Rattle.learning.specs.declared.event.Event.TheVariants as event
use Rattle.learning.specs.Bounds.{IsInfoOf}
use Rattle.learning.specs.Learning.{is_early, waiting, reviewed, has_helped, would_hit, one_more, learn, learn_block}
use Rattle.search_info.specs.declared.knows.Knows.{Knows}
use Rattle.search_info.specs.declared.outcome.Learn.{Learn}
use Rattle.search_info.specs.declared.outcome.Learn.TheVariants.{Learnt, Raced, Worn}
use Rattle.search_info.specs.Outcomes.{TellsLearn, TellsBlock}
use Rattle.index_page.specs.Page.{PageRows}
use Rattle.hash_law.specs.Blocks.{AskFew, IsTidy}
use Rattle.forest_law.specs.declared.objects.Frame.{Frame}
use Rattle.forest_law.specs.Hashed.{hash_block}
use Rattle.leaf_search.specs.Builds.{SuitsLeaf}
use Rattle.leaf_search.specs.Lessons.{with_figures}

-- with its advice, or with another
abbrev advised_by : (helped : Bool) (figures : BlockFigures) (info : Info) → BlockFigures
advised_by helped figures info = cond helped (record figures { helps = one_more 4294967295 figures.helps })
    (record figures { helps = 1; advice = info.params })

advised_built : (helped : Bool) (figures : BlockFigures) (info : Info)
    → (advised_by helped figures info).built ≡ figures.built
advised_built true figures info = refl
advised_built false figures info = refl

advised_asks : (helped : Bool) (figures : BlockFigures) (info : Info) (n : ℕ)
    → asked_fields figures.advice ≤ n → asked_fields info.params ≤ n
    → asked_fields (advised_by helped figures info).advice ≤ n
advised_asks true figures info n was asks = was
advised_asks false figures info n was asks = asks

-- early or not
module _ (figures : BlockFigures) (new : Info) (waits : Info) (last : Bool) (helped : Bool) where
  early_built : (early : Bool)
      → (cond early figures (advised_by helped figures new)).built ≡ figures.built
  early_built true = refl
  early_built false = advised_built helped figures new

  early_asks : (early : Bool) (n : ℕ) → asked_fields figures.advice ≤ n
      → asked_fields (cond early waits (record new { last = last })).params ≤ n
      → asked_fields (cond early figures (advised_by helped figures new)).advice ≤ n
  early_asks true n was asks = was
  early_asks false n was asks = advised_asks helped figures new n was asks

-- a block stays hashed as it is
pub taught_built : (info : Info) (d : Descent) → (learn_block info d).built ≡ d.block.built
taught_built info d = let new = reviewed (waiting info) d in
    early_built d.block new (waiting info) (would_hit new d.block) (has_helped new d.block)
    (is_early info)

-- and its advice asks for no more fields than the index has
pub taught_asks : (info : Info) (d : Descent) (n : ℕ) → asked_fields d.block.advice ≤ n
    → IsInfoOf n (learn info (event.Descent d)) → asked_fields (learn_block info d).advice ≤ n
taught_asks info d n was bounded = let new = reviewed (waiting info) d in
    early_asks d.block new (waiting info) (would_hit new d.block) (has_helped new d.block)
    (is_early info) n was bounded.asks

-- so it is whether the descent was counted or not
pub block_built : (d : Descent) (told : Learn) (figures : BlockFigures) → TellsBlock d told figures
    → figures.built ≡ d.block.built
block_built d (Learnt before after build) figures is =
    ap (λ (z : BlockFigures). z.built) is ∙ taught_built before d
block_built d (Raced read found) figures is = ap (λ (z : BlockFigures). z.built) is
block_built d Worn figures is = ap (λ (z : BlockFigures). z.built) is

pub block_asks : (v : Knows) (i : ℕ) (d : Descent) (told : Learn) (w : Knows)
    (figures : BlockFigures) (n : ℕ) → TellsLearn v i (event.Descent d) told w
    → TellsBlock d told figures
    → ((before after : Info) (build : Bool) → told ≡ Learnt before after build
    → IsInfoOf n (learn before (event.Descent d)))
    → asked_fields d.block.advice ≤ n → asked_fields figures.advice ≤ n
block_asks v i d (Learnt before after build) w figures n tells is bounded was =
    subst (λ (z : BlockFigures). asked_fields z.advice ≤ n) (sym is)
    (taught_asks before d n was (bounded before after build refl))
block_asks v i d (Raced read found) w figures n tells is bounded was =
    subst (λ (z : BlockFigures). asked_fields z.advice ≤ n) (sym is) was
block_asks v i d Worn w figures n tells is bounded was =
    subst (λ (z : BlockFigures). asked_fields z.advice ≤ n) (sym is) was

-- how few fields are asked for, of a page that is there
pub few_of : (o : Option PageRows) (page : PageRows) (params : Params) → o ≡ Some page
    → AskFew o params → asked_fields params ≤ page.head.fields
few_of o page params is few = subst (λ z. AskFew z params) is few

pub few_on : (o : Option PageRows) (page : PageRows) (params : Params) → o ≡ Some page
    → asked_fields params ≤ page.head.fields → AskFew o params
few_on o page params is few = subst (λ z. AskFew z params) (sym is) few

-- a tidy frame stays so with figures that suit it
pub suited_tidy : (f : Frame) (figures : BlockFigures) → SuitsLeaf f figures
    → IsTidy (hash_block f) → IsTidy (hash_block (with_figures f figures))
suited_tidy f figures suits tidy = record {
  both = tidy.both ∙ ap is_some (sym suits.built);
  leaf = λ index e. (let leaf = tidy.leaf index e in search);
  built = λ params e. tidy.built params (sym suits.built ∙ e);
  advice = suits.advice;
}
