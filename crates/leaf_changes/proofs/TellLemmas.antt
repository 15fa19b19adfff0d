-- What a whole call leaves behind: a leaf was held, something was said, and it was given back.
use Rattle.std.proofs.Common.{◌≡◌, ◌≢◌, ℕ, List, [], ◌∷◌, ◌++◌, append-nil, Option, Some, None, sym, ap, subst, ◌∙◌, refl}
use Rattle.std.specs.List.{AllByRecursion}
use Rattle.key_tuple.specs.Order.{FieldList}
use Rattle.latch_law.specs.declared.knows.Reference.{Reference}
use Rattle.latch_law.specs.declared.knows.Refusal.{Refusal}
use Rattle.latch_law.specs.declared.knows.Terms.{Terms}
use Rattle.latch_law.specs.Views.{holding}
use Rattle.latch_law.specs.Whole.{reference}
use Rattle.latch_space.specs.Has.{SameHands, IsKnown}
use Rattle.latch_space.specs.Passes.{view, count}
use Rattle.map_history.specs.declared.reply.Reply.TheVariants as words
use Rattle.map_history.specs.declared.reply.Told.{Told}
use Rattle.map_history.specs.Map.{Pair, MapChange}
use Rattle.map_history.specs.Operation.{Ask, Make}
use Rattle.map_history.specs.Reply.{Done}
use Rattle.map_history.specs.Report.{Replied}
use Rattle.index_law.specs.Shape.{Shape}
use Rattle.forest_law.specs.declared.objects.Frame.{Frame}
use Rattle.forest_law.specs.declared.objects.Object.{Object}
use Rattle.forest_law.specs.declared.objects.Object.TheVariants as object
use Rattle.forest_law.specs.Numbers.{frame_id, part_id}
use Rattle.forest_world.specs.Held.{TreePass, shape_of_pass}
use Rattle.hash_maintain.specs.Parting.{GivesPart}
use Rattle.call_law.specs.Hands.{KnowsFrame}
use Rattle.call_law.specs.Once.{IsQuiet}
use Rattle.call_law.specs.Spoken.{View}
use Rattle.call_law.specs.Trace.{Added, Adds, IsOnlySaid, IsNoTree, SparesTrees, frame_references}
use Rattle.call_law.proofs.TraceLemmas.{both_added, quiet_of, quiet_both, quiet_then_once, once_then_silent, only_both}
use Rattle.buffer_pool.specs.Frames.{GivesFrame}
use Rattle.buffer_pool.specs.Pages.{HasNumber}
use Rattle.buffer_pool.specs.Parts.{HoldsPartIf, HoldsPartToo}
use Rattle.buffer_pool.specs.Tries.{tries_alone}
use Rattle.buffer_pool.proofs.PartLemmas.{part_no_tree}
use Rattle.buffer_pool.proofs.AddedLemmas.{only_given, gave_adds, frame_no_tree, given_spares, spares_both}
use Rattle.tree_descent.specs.declared.descending.Leaf.{Leaf}
use Rattle.engine_law.specs.declared.found.Found.{Found}
use Rattle.leaf_changes.specs.Commits.{IsCommitted}
use Rattle.leaf_changes.specs.Holds.{HoldsLeaf, HoldsKnown, KeepsNumber}
use Rattle.leaf_changes.specs.Hashed.{GivesPartOf}
use Rattle.leaf_changes.specs.Says.{AnswersAndLeaves}
use Rattle.engine_law.specs.Says.{SaysOnce, OnlyLooks, columns_by}
use Rattle.leaf_changes.specs.Says.{SaysBeside, LooksBeside, SparesPages, AnswersHolding, told_made}
use Rattle.engine_law.specs.Tells.{TellsOnce}
use Rattle.engine_law.proofs.FrameTraceLemmas.{frames_both, said_frames, said_spares}
use Rattle.leaf_changes.proofs.HoldLemmas.{frame_again}
use Rattle.leaf_changes.proofs.SettleLemmas.{stays_same}
use Rattle.engine_law.proofs.KnownLemmas.{gave_known, knows_same, page_number}
use Rattle.leaf_changes.proofs.NumberLemmas.{number_stays, leaf_inside}

-- nothing was answered, and then nothing
pub looks_both : (v v0 v1 : View) (i : ℕ) → OnlyLooks v v0 i → OnlyLooks v0 v1 i
    → OnlyLooks v v1 i
unfolding quiet_both
looks_both v v0 v1 i a b = record {
  quiet = quiet_both v v0 v1 i a.quiet b.quiet;
  only = only_both a.quiet.added b.quiet.added a.only b.only;
}

-- nothing was answered, and then the operation was
pub looks_then_says : (v v0 v1 : View) (i : ℕ) (ask : Ask) (told : Told) (row : Pair)
    → OnlyLooks v v0 i → SaysOnce v0 v1 i ask told row → SaysOnce v v1 i ask told row
unfolding quiet_then_once
looks_then_says v v0 v1 i ask told row looks says = record {
  answer = says.answer;
  is_told = says.is_told;
  once = quiet_then_once i ask says.answer v v0 v1 looks.quiet says.once;
  only = only_both looks.quiet.added says.once.added looks.only says.only;
  placed = says.placed;
}

-- a change of the hand is no step
pub looks_same : (v v0 v1 : View) (i : ℕ) → OnlyLooks v v0 i → v1 ≡ v0 → OnlyLooks v v1 i
looks_same v v0 v1 i looks same = subst (λ (z : View). OnlyLooks v z i) (sym same) looks

pub says_same : (v v0 v1 : View) (i : ℕ) (ask : Ask) (told : Told) (row : Pair)
    → SaysOnce v v0 i ask told row → v1 ≡ v0 → SaysOnce v v1 i ask told row
says_same v v0 v1 i ask told row says same =
    subst (λ (z : View). SaysOnce v z i ask told row) (sym same) says

-- a change that was written is told so
pub says_made : (p q : TreePass) (i : ℕ) (change : MapChange) (row : Pair) (found : Found)
    (told : Told) (point : ℕ) → told ≡ told_made found point
    → IsCommitted p q i change (columns_by found) point
    → SaysOnce (view p) (view q) i (Make change) told row
says_made p q i change row found told point is written =
    subst (λ t. SaysOnce (view p) (view q) i (Make change) t row) (sym is) (record {
      answer = Replied Done point (columns_by found);
      is_told = record { is = refl; point = refl; key = tt; stands = found.stands };
      once = written.once;
      only = written.only;
      placed = λ e. cc;
    })

-- where a leaf is held and something is said of it, it is held still
pub said_holding : (p q : TreePass) (b i : ℕ) (key : FieldList) (f : Frame) (ask : Ask)
    (told : Told) (row : Pair) → HoldsLeaf p b i key f f → IsKnown p → SameHands p q
    → SaysOnce (view p) (view q) i ask told row → AnswersHolding p q b i ask told row
said_holding p q b i key f ask told row holds known same says = record {
  says = says;
  holds = record {
    frame = f;
    has = frame_again p q b f f same says.once.adds.numbers.terms holds.has;
    inside = leaf_inside p b i key f f holds;
  };
  number = number_stays (view p) b f holds.has.held;
  stays = stays_same p q same says.once.adds.numbers.terms known;
}

-- so what was only said is told beside nothing
pub beside_of : (v v' : View) (i : ℕ) (ask : Ask) (told : Told) (row : Pair)
    → SaysOnce v v' i ask told row → SaysBeside v v' i ask told row
beside_of v v' i ask told row says = record {
  answer = says.answer;
  is_told = says.is_told;
  once = says.once;
  beside = record {
    trees = said_spares v.terms.shape says.once.added says.only;
    frames = said_frames says.once.added says.only;
  };
  placed = says.placed;
}

-- a partition was held before something was said, and given back behind it
module _ (p0 q0 q1 p1 : TreePass) (i : ℕ) where
  module _ (k : ℕ) (took : HoldsPartToo p0 k q0) (gave : GivesPart q1 k p1)
      (terms : (view q1).terms ≡ (view q0).terms) where
    abbrev tried : Added
    tried = tries_alone took.tries.refused

    abbrev given : Added
    given = only_given (part_id (shape_of_pass q1) k) gave.taken (object.Part gave.part)

    given_adds : Adds (view q1) (view p1) given
    given_adds = gave_adds (view q1) (view p1) (part_id (shape_of_pass q1) k)
        (holding gave.taken (object.Part gave.part)) gave.view

    all_spare : (s : Added) → IsOnlySaid s
        → SparesPages (shape_of_pass p0) (both_added (both_added tried s) given)
    all_spare s only = record {
      trees = spares_both (shape_of_pass p0) (both_added tried s) given
          (spares_both (shape_of_pass p0) tried s took.tries.does.spares
          (said_spares (shape_of_pass p0) s only))
          (subst (λ (t : Terms Shape). SparesTrees t.shape given)
          (terms ∙ took.tries.does.adds.numbers.terms)
          (given_spares (shape_of_pass q1) (part_id (shape_of_pass q1) k) gave.taken
          (object.Part gave.part) (part_no_tree (shape_of_pass q1) k)));
      frames = ap (λ z. frame_references (z ++ given.references)) only.references;
    }

    part_quiet : IsQuiet (view p0) (view q0) i
    part_quiet = quiet_of (view p0) (view q0) i tried took.tries.does.adds refl

    part_says : (ask : Ask) (told : Told) (row : Pair)
        → SaysOnce (view q0) (view q1) i ask told row
        → SaysBeside (view p0) (view p1) i ask told row
    unfolding quiet_of quiet_then_once once_then_silent part_quiet
    part_says ask told row says = record {
      answer = says.answer;
      is_told = says.is_told;
      once = once_then_silent i ask says.answer (view p0) (view q1) (view p1) given
          (quiet_then_once i ask says.answer (view p0) (view q0) (view q1) part_quiet says.once)
          given_adds refl (ap (λ (z : View). z.seen) gave.view);
      beside = all_spare says.once.added says.only;
      placed = says.placed;
    }

    part_looks : OnlyLooks (view q0) (view q1) i → LooksBeside (view p0) (view p1) i
    unfolding quiet_of quiet_both part_quiet
    part_looks looks = record {
      quiet = quiet_both (view p0) (view q1) (view p1) i
          (quiet_both (view p0) (view q0) (view q1) i part_quiet looks.quiet)
          (quiet_of (view q1) (view p1) i given given_adds refl);
      beside = all_spare looks.quiet.added looks.only;
    }

  -- or none was, where the leaf isn't hashed
  pub beside_says : (part : Option ℕ) → HoldsPartIf p0 part q0 → GivesPartOf q1 part p1
      → (ask : Ask) (told : Told) (row : Pair) → SaysOnce (view q0) (view q1) i ask told row
      → SaysBeside (view p0) (view p1) i ask told row
  beside_says None took gave ask told row says =
      subst (λ (z : TreePass). SaysBeside (view z) (view p1) i ask told row) took
      (subst (λ (z : TreePass). SaysBeside (view q0) (view z) i ask told row) (sym gave)
      (beside_of (view q0) (view q1) i ask told row says))
  beside_says (Some k) took gave ask told row says =
      part_says k took gave says.once.adds.numbers.terms ask told row says

  pub beside_looks : (part : Option ℕ) → HoldsPartIf p0 part q0 → GivesPartOf q1 part p1
      → OnlyLooks (view q0) (view q1) i → LooksBeside (view p0) (view p1) i
  beside_looks None took gave looks =
      subst (λ (z : TreePass). LooksBeside (view z) (view p1) i) took
      (subst (λ (z : TreePass). LooksBeside (view q0) (view z) i) (sym gave) (record {
        quiet = looks.quiet;
        beside = record {
          trees = said_spares (shape_of_pass q0) looks.quiet.added looks.only;
          frames = said_frames looks.quiet.added looks.only;
        };
      }))
  beside_looks (Some k) took gave looks =
      part_looks k took gave looks.quiet.adds.numbers.terms looks

-- a leaf that stays while something is said is given back with its number
pub number_gave : (p q r : TreePass) (b : ℕ) (f : Frame) → KnowsFrame (view p) b f → SameHands p q
    → (view q).terms ≡ (view p).terms → (gave : GivesFrame q b r)
    → KeepsNumber (view p) b gave.frame
number_gave p q r b f knows same terms gave = subst (KeepsNumber (view p) b)
    (gave_known q r b f (knows_same p q b f same.held terms knows) gave)
    (number_stays (view p) b f knows)

-- a leaf that is held alone is so still while something is said
pub known_still : (p q : TreePass) (b i : ℕ) (key : FieldList) (f : Frame)
    → HoldsLeaf p b i key f f → SameHands p q → (view q).terms ≡ (view p).terms → count p ≡ 1
    → HoldsKnown q b
known_still p q b i key f holds same terms one = record {
  frame = f;
  has = frame_again p q b f f same terms holds.has;
  inside = leaf_inside p b i key f f holds;
  one = same.count ∙ one;
}
