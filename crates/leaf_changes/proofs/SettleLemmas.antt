-- What is known and held once a step was made, or none.
use Rattle.std.proofs.Common.{◌≡◌, ◌<◌, ℕ, inl, inr, sym, ap, subst, ◌∙◌, refl, Option, Some, None}
use Rattle.std.proofs.lemmas.Bool.{cases_eq}
use mathlib.Core.Option.{some}
use lib.ListN.{get_elem?}
use Rattle.list_facts.proofs.Places.{none_is_not}
use Rattle.latch_law.specs.declared.knows.Holding.{Holding}
use Rattle.latch_law.specs.declared.knows.Terms.{Terms}
use Rattle.latch_law.specs.Views.{holding, learnt}
use Rattle.latch_space.specs.Has.{Has, SameHands, IsKnown, IsKnownBut, DidSettle}
use Rattle.latch_space.specs.Passes.{view, values, known_values, count}
use Rattle.latch_law.proofs.Lists.{known_at}
use Rattle.latch_space.proofs.Pointwise.{learnt_known}
use Rattle.hash_partition.specs.Part.{Part}
use Rattle.hash_law.specs.Blocks.{part_for}
use Rattle.index_law.specs.Shape.{Shape}
use Rattle.forest_law.specs.declared.objects.Frame.{Frame}
use Rattle.forest_law.specs.declared.objects.Object.{Object}
use Rattle.forest_law.specs.declared.objects.Object.TheVariants as object
use Rattle.forest_law.specs.Hashed.{IsExactFor}
use Rattle.forest_law.specs.HashLaws.{BlocksAskTheSame}
use Rattle.forest_law.specs.Law.{Follows}
use Rattle.forest_law.specs.Numbers.{part_id, frame_id, frames_of}
use Rattle.forest_law.specs.Steps.{Rests}
use Rattle.forest_law.specs.Objects.{Becomes}
use Rattle.forest_law.proofs.RowStepLemmas.{rest_follows}
use Rattle.forest_world.specs.Held.{TreePass, shape_of_pass, HasFrame, HasPart}
use Rattle.call_law.specs.Hands.{KnowsPart}
use Rattle.call_law.specs.Spoken.{View}
use Rattle.buffer_pool.proofs.AddedLemmas.{none_added, held_adds}
use Rattle.buffer_pool.proofs.FrameLemmas.{one_held}
use Rattle.leaf_changes.specs.Changes.{KnowsSame}
use Rattle.leaf_changes.specs.Hashed.{HoldsPartKept, HoldsPartOf, HoldsAtRest, Settles}
use Rattle.leaf_changes.specs.Holds.{KeepsParts, StaysKnown}
use Rattle.engine_law.specs.Says.{SeesFull}
use Rattle.leaf_changes.proofs.KeptLemmas.{hash_kept, one_at, others_rest, whole_kept}

-- a partition that is known isn't lacked
known_not_lacked : (v : View) (k : ℕ) (x : Part) → KnowsPart v k x
    → get_elem? v.held (part_id v.terms.shape k) ≡ some None → ⊥
known_not_lacked v k x knows lacks =
    none_is_not (holding knows.0 (object.Part x)) (sym lacks ∙ knows.1)

-- the partition in hand stays where it is held still
pub keeps_parts : (p q : TreePass) (o : Option ℕ) (b : ℕ) (h : Frame) → HoldsPartOf p o b h
    → ((k : ℕ) (x y : Part) → k < (shape_of_pass p).parts → HasPart p k x y → HasPart q k y y)
    → KeepsParts (view p) (view q)
keeps_parts p q None b h none then k x below knows =
    absurd (known_not_lacked (view p) k x knows (none k below))
keeps_parts p q (Some index) b h kept then k x below knows =
    elim (cases_eq k (part_for (shape_of_pass p).parts index)) [
      | inl e ↦ (
        kept.now,
        subst (λ n. KnowsPart (view q) n kept.now) (sym e)
            (then (part_for (shape_of_pass p).parts index) kept.known kept.now kept.below
            kept.has).held,
      )
      | inr ne ↦ absurd (known_not_lacked (view p) k x knows (kept.alone k below ne))
    ]

-- and where no more and no less is held
pub parts_same : (v w : View) → w.held ≡ v.held → w.terms ≡ v.terms → KeepsParts v w
parts_same v w held terms k x below knows = (
  x,
  (
    knows.0,
    ap (λ (t : Terms Shape). get_elem? w.held (part_id t.shape k)) terms
        ∙ (ap (λ hs. get_elem? hs (part_id v.terms.shape k)) held ∙ knows.1),
  ),
)

pub parts_both : (v w u : View) → w.terms ≡ v.terms → KeepsParts v w → KeepsParts w u
    → KeepsParts v u
parts_both v w u terms first second k x below knows = let one = first k x below knows in
    second k one.0 (subst (λ (t : Terms Shape). k < t.shape.parts) (sym terms) below) one.1

-- a list that was seen full is seen so where no more was seen
pub full_still : (v w : View) (i : ℕ) → w.seen ≡ v.seen → w.terms ≡ v.terms → SeesFull v i
    → SeesFull w i
full_still v w i seen terms full = record {
  list = full.list;
  seen = ap (λ xs. get_elem? xs i) seen ∙ full.seen;
  full = full.full ∙ ap (λ (t : Terms Shape). t.max_changes) (sym terms);
}

-- what is known stays known where the hands stay
pub known_again : (p q : TreePass) → SameHands p q → IsKnown p → IsKnown q
known_again p q same known j h held = ap (λ vs. get_elem? vs j) same.values
    ∙ known j h (ap (λ hs. get_elem? hs j) (sym same.held) ∙ held)

-- but for the block's frame
pub rest_again : (p q : TreePass) (b : ℕ) → SameHands p q → (view q).terms ≡ (view p).terms
    → IsKnownBut p (frame_id (shape_of_pass p) b) → IsKnownBut q (frame_id (shape_of_pass q) b)
rest_again p q b same terms known j h differs held = ap (λ vs. get_elem? vs j) same.values
    ∙ known j h (λ e. differs (e ∙ ap (λ (t : Terms Shape). frame_id t.shape b) (sym terms)))
    (ap (λ hs. get_elem? hs j) (sym same.held) ∙ held)

pub stays_same : (p q : TreePass) → SameHands p q → (view q).terms ≡ (view p).terms → IsKnown p
    → StaysKnown p q
stays_same p q same terms known = record {
  known = known_again p q same known;
  parts = parts_same (view p) (view q) same.held terms;
  count = same.count;
}

pub stays_both : (p q r : TreePass) → (view q).terms ≡ (view p).terms
    → KeepsParts (view p) (view q) → count q ≡ count p → StaysKnown q r → StaysKnown p r
stays_both p q r terms parts counted stays = record {
  known = stays.known;
  parts = parts_both (view p) (view q) (view r) terms parts stays.parts;
  count = stays.count ∙ counted;
}

-- a pass that stays the same but for the block's frame knows all that it has, once that is known
pub known_after : (p q : TreePass) (b : ℕ) (f : Frame) → KnowsSame p q b
    → IsKnownBut p (frame_id (shape_of_pass p) b) → HasFrame q b f f → IsKnown q
known_after p q b f same known has j h held =
    elim (cases_eq j (frame_id (shape_of_pass p) b)) [
      | inl e ↦ (let at = e ∙ ap (λ (v : View). frame_id v.terms.shape b) (sym same.view) in
          ap (get_elem? (values q)) at
          ∙ (has.value ∙ ap (λ (z : Holding Object). some (Some z.known))
          (one_held q (frame_id (shape_of_pass q) b) (holding has.held.0 (object.Frame f)) h
          has.held.1 (ap (get_elem? (view q).held) (sym at) ∙ held))))
      | inr ne ↦ (let s = same.others j ne in s.1 ∙ known j h ne (sym s.0 ∙ held))
    ]

module _ (ask : BlocksAskTheSame) (p : TreePass) (b : ℕ) (rest : HoldsAtRest p b)
    (below : b < frames_of (shape_of_pass p)) where
  -- the settle is a step of the law
  pub settle_follows : Follows (shape_of_pass p) (known_values p) (values p) None
  settle_follows = rest_follows (shape_of_pass p) (known_values p) (values p)
      (record {
        each = tt;
        tops = tt;
        others = λ j y z becomes apart aside. at_rest j y z becomes;
      })
      (hash_kept ask p rest.index b rest.known rest.now rest.now rest.has rest.hash below (values p)
      rest.has.value (λ j ne. refl))
    where
      leaf_is : (j : ℕ) (y z : Object) → Becomes (known_values p) (values p) j y z
          → j ≡ frame_id (shape_of_pass p) b → Rests y z
      leaf_is j y z becomes e =
          subst (λ u. Rests u z)
          (one_at (known_values p) j (object.Frame rest.known) y
          (ap (get_elem? (known_values p)) e
          ∙ known_at (view p).held (frame_id (shape_of_pass p) b)
          (holding rest.has.held.0 (object.Frame rest.known)) rest.has.held.1) becomes.0)
          (subst (Rests (object.Frame rest.known))
          (one_at (values p) j (object.Frame rest.now) z
          (ap (get_elem? (values p)) e ∙ rest.has.value) becomes.1) rest.rests)

      at_rest : (j : ℕ) (y z : Object) → Becomes (known_values p) (values p) j y z → Rests y z
      at_rest j y z becomes = elim (cases_eq j (frame_id (shape_of_pass p) b)) [
        | inl e ↦ leaf_is j y z becomes e
        | inr ne ↦ others_rest p rest.index b rest.known rest.now rest.now rest.now rest.has
            rest.hash (values p) rest.has.value (λ k aside. refl) j y z becomes ne
      ]

  module _ (q : TreePass) (did : DidSettle p q) where
    same_terms : (view q).terms ≡ (view p).terms
    same_terms = ap (λ (v : View). v.terms) did.view

    part_then : (k : ℕ) (x y : Part) → HasPart p k x y → HasPart q k y y
    part_then k x y has = subst
        (λ (t : Terms Shape). Has q (part_id t.shape k) (object.Part y) (object.Part y))
        (sym same_terms)
        (did.learnt.has (part_id (shape_of_pass p) k) (object.Part x) (object.Part y) has)

    of_then : (o : Option ℕ) (g : Frame) → HoldsPartOf p o b g → HoldsPartOf q o b g
    of_then None g none = λ k few.
        ap (λ (t : Terms Shape). get_elem? (view q).held (part_id t.shape k)) same_terms
        ∙ did.learnt.lacks (part_id (shape_of_pass p) k)
        (none k (subst (λ (t : Terms Shape). k < t.shape.parts) same_terms few))
    of_then (Some index) g kept =
        subst (λ (t : Terms Shape). HoldsPartKept q (part_for t.shape.parts index) b g)
        (sym same_terms)
        (let k = part_for (shape_of_pass p).parts index in record {
          below = subst (λ (t : Terms Shape). k < t.shape.parts) (sym same_terms) kept.below;
          known = kept.now;
          now = kept.now;
          has = part_then k kept.known kept.now kept.has;
          exact = subst (λ (t : Terms Shape). IsExactFor t.shape k b kept.now g) (sym same_terms)
              kept.exact;
          others = λ n apart. refl;
          shape = record { room = refl; stamps = refl };
          alone = λ j few ne.
              ap (λ (t : Terms Shape). get_elem? (view q).held (part_id t.shape j)) same_terms
              ∙ did.learnt.lacks (part_id (shape_of_pass p) j)
              (kept.alone j (subst (λ (t : Terms Shape). j < t.shape.parts) same_terms few) ne);
        })

    pub settles : (i : ℕ) → Settles p i b q
    settles i = record {
      looks = record {
        quiet = record {
          added = none_added;
          adds = held_adds (view p) (view q) (learnt (values p) (view p).held) did.view;
          given = tt;
          said = refl;
          fulls = refl;
        };
        only = record { refused = refl; references = refl };
      };
      seen = ap (λ (v : View). v.seen) did.view;
      frame = λ f g has. subst
          (λ (t : Terms Shape). Has q (frame_id t.shape b) (object.Frame g) (object.Frame g))
          (sym same_terms)
          (did.learnt.has (frame_id (shape_of_pass p) b) (object.Frame f) (object.Frame g) has);
      part = λ o f g has hash. of_then o g hash.part;
      stays = record {
        known = learnt_known p q
            (whole_kept p rest.index b rest.known rest.now rest.now rest.now rest.has rest.hash)
            (ap (λ (v : View). v.held) did.view) did.learnt.values;
        parts = keeps_parts p q rest.index b rest.now rest.hash.part
            (λ k x y few has. part_then k x y has);
        count = did.learnt.count;
      };
    }
