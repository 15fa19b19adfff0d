-- That a lane is ready is a fact with one proof at most, so it comes out of its type; and lines of a schema can be worked by an engine for it.
use Rattle.std.proofs.Common.{◌≡◌, ℕ, Bool, List, [], ◌∷◌, length, refl, ap, ◌∙◌, arith}
use Rattle.std.specs.Coded.{Coded, Coded-set, coded_ℕ, coded_bool, coded_list, coded×, code_by, ×_prop, Unit-prop, le_prop}
use Rattle.std.specs.List.{AllByRecursion}
use Rattle.std.specs.declared.alloc.Global.{Global}
use Rattle.std.specs.Prelude.{Vec}
use mathlib.Core.Logic.{∥∥₁_elim}
use mathlib.Core.Option.{is_set}
use lib.ListN.{get_elem?}
use Rattle.atomic_table.specs.Seated.{table_id_coded}
use Rattle.key_tuple.specs.declared.mode.Params.{Params}
use Rattle.learning.specs.declared.info.Info.{Info}
use Rattle.search_info.specs.declared.knows.Opening.{Opening}
use Rattle.search_info.specs.Passes.{knowledge, opening}
use Rattle.list_facts.proofs.Places.{inside}
use Rattle.latch_law.specs.declared.knows.Terms.{Terms}
use Rattle.map_history.specs.declared.op.Op.{Op}
use Rattle.map_history.specs.declared.op.Op.TheVariants as op
use Rattle.map_history.specs.declared.sizes.Sizes.{Sizes}
use Rattle.map_history.specs.declared.line.Line.{Line}
use Rattle.index_law.specs.Shape.{Shape}
use Rattle.forest_law.specs.State.{or_zero, fields_for}
use Rattle.lane_threads.specs.Engine.{Engine, EnginePass, known, IsOf}
use Rattle.forest_world.specs.Opening.{forest_terms}
use Rattle.lane_law.specs.Lines.{IsOpOf, AreLinesOf}
use Rattle.lane_threads.specs.Workable.{IsWorkableOp, AreWorkable}
use Rattle.lane_threads.specs.Ready.{IsReady}
use Rattle.lane_threads.specs.Together.{AllAreLinesOf}

-- a shape as a tuple of numbers and lists
coded_shape : Coded Shape
coded_shape = code_by (ℕ × (List ℕ × (ℕ × (ℕ × (ℕ × (ℕ × ℕ))))))
    (coded× coded_ℕ (coded× (coded_list coded_ℕ) (coded× coded_ℕ (coded× coded_ℕ (coded× coded_ℕ (coded× coded_ℕ coded_ℕ))))))
    (λ s. (s.indexes, (s.fields, (s.pages, (s.parts, (s.blocks, (s.nodes, s.fold_bits)))))))
    (λ p. record { indexes = p.0; fields = p.1.0; pages = p.1.1.0; parts = p.1.1.1.0; blocks = p.1.1.1.1.0; nodes = p.1.1.1.1.1.0; fold_bits = p.1.1.1.1.1.1 })
    (λ _. refl)

-- and the terms of a space
coded_terms : Coded (Terms Shape)
coded_terms = code_by (Shape × (ℕ × (ℕ × (ℕ × ℕ))))
    (coded× coded_shape (coded× coded_ℕ (coded× coded_ℕ (coded× coded_ℕ coded_ℕ))))
    (λ t. (t.shape, (t.objects, (t.indexes, (t.max_changes, t.passes)))))
    (λ p. record { shape = p.0; objects = p.1.0; indexes = p.1.1.0; max_changes = p.1.1.1.0; passes = p.1.1.1.1 })
    (λ _. refl)

-- what an index has learnt
coded_params : Coded Params
coded_params = code_by (ℕ × (ℕ × Bool)) (coded× coded_ℕ (coded× coded_ℕ coded_bool))
    (λ p. (p.fields, (p.bytes, p.left)))
    (λ p. record { fields = p.0; bytes = p.1.0; left = p.1.1 })
    (λ _. refl)

coded_info : Coded Info
coded_info = code_by (ℕ × (ℕ × (Params × (Bool × ℕ))))
    (coded× coded_ℕ (coded× coded_ℕ (coded× coded_params (coded× coded_bool coded_ℕ))))
    (λ n. (n.analysis, (n.potential, (n.params, (n.last, n.events)))))
    (λ p. record { analysis = p.0; potential = p.1.0; params = p.1.1.0; last = p.1.1.1.0; events = p.1.1.1.1 })
    (λ _. refl)

-- and what a learner was opened with
coded_opening : Coded Opening
coded_opening = code_by (List (Info × ℕ) × ℕ) (coded× (coded_list (coded× coded_info coded_ℕ)) coded_ℕ)
    (λ o. (o.starts, o.passes))
    (λ p. record { starts = p.0; passes = p.1 })
    (λ _. refl)

own_prop : (engine : Engine) (pass : EnginePass) → IsProp (IsOf engine pass)
own_prop engine pass = ×_prop
    (×_prop (Coded-set table_id_coded pass.world.seat.table_id engine.space.table.shared.table_id) (Coded-set coded_terms (known pass).terms engine.space.terms))
    (×_prop (Coded-set table_id_coded pass.learn.seat.table_id engine.learner.table.shared.table_id) (Coded-set coded_opening (knowledge pass.learn).opening (opening engine.learner)))

op_prop : (engine : Engine) (o : Op) → IsProp (IsWorkableOp engine o)
op_prop engine (op.Get index key) = ×_prop le_prop (is_set (Coded-set coded_ℕ) _ _)
op_prop engine (op.Put index key value) = ×_prop le_prop (is_set (Coded-set coded_ℕ) _ _)
op_prop engine (op.Set index key value) = ×_prop le_prop (is_set (Coded-set coded_ℕ) _ _)
op_prop engine (op.Del index key) = ×_prop le_prop (is_set (Coded-set coded_ℕ) _ _)
op_prop engine (op.Seek index mode tuple) = ×_prop le_prop le_prop
op_prop engine (op.Scan index from to limit) = λ x. absurd x

lines_prop : (engine : Engine) (lines : List Line) → IsProp (AreWorkable engine lines)
lines_prop engine [] = Unit-prop
lines_prop engine (line ∷ lines) = ×_prop (op_prop engine line.op) (lines_prop engine lines)

module _ (engine : Engine) (lane indexes : ℕ) (pass : EnginePass) (lines : List Line) (ready : ∥ IsReady engine lane indexes pass lines ∥₁) where
  -- a lane that is ready has all that its type says
  pub ready_is : IsReady engine lane indexes pass lines
  ready_is = record {
    own = ∥∥₁_elim ready (own_prop engine pass) (λ r. r.own);
    lane_is = ∥∥₁_elim ready (Coded-set coded_ℕ _ _) (λ r. r.lane_is);
    indexes_are = ∥∥₁_elim ready (Coded-set coded_ℕ _ _) (λ r. r.indexes_are);
    lines_can = ∥∥₁_elim ready (lines_prop engine lines) (λ r. r.lines_can);
  }

module _ (engine : Engine) (sizes : Sizes) (fields : List ℕ) (lanes : ℕ) (terms : engine.space.terms ≡ forest_terms sizes fields lanes) where
  workable_op : (o : Op) → IsOpOf fields o → IsWorkableOp engine o
  workable_op (op.Get index key) can = let below = inside fields index (length key.tuple) can in let count = ap (λ (t : Terms Shape). t.indexes) terms in (omega (arith, below, count), ap (λ (t : Terms Shape). get_elem? t.shape.fields index) terms ∙ can)
  workable_op (op.Put index key value) can = let below = inside fields index (length key.tuple) can in let count = ap (λ (t : Terms Shape). t.indexes) terms in (omega (arith, below, count), ap (λ (t : Terms Shape). get_elem? t.shape.fields index) terms ∙ can)
  workable_op (op.Set index key value) can = let below = inside fields index (length key.tuple) can in let count = ap (λ (t : Terms Shape). t.indexes) terms in (omega (arith, below, count), ap (λ (t : Terms Shape). get_elem? t.shape.fields index) terms ∙ can)
  workable_op (op.Del index key) can = let below = inside fields index (length key.tuple) can in let count = ap (λ (t : Terms Shape). t.indexes) terms in (omega (arith, below, count), ap (λ (t : Terms Shape). get_elem? t.shape.fields index) terms ∙ can)
  workable_op (op.Seek index mode tuple) can =
      let below = inside fields index can.0 can.1 in
      let count = ap (λ (t : Terms Shape). t.indexes) terms in
      let as_many : fields_for engine.space.terms.shape index ≡ can.0 =
      ap (λ (t : Terms Shape). fields_for t.shape index) terms ∙ ap or_zero can.1 in
      let fits = can.2 in
      (omega (arith, below, count), omega (arith, as_many, fits))
  workable_op (op.Scan index from to limit) can = absurd can

  -- the lines of a schema can be worked by an engine for it
  lane_workable : (lines : List Line) → AreLinesOf fields lines → AreWorkable engine lines
  lane_workable [] all = tt
  lane_workable (line ∷ lines) all = (workable_op line.op all.0, lane_workable lines all.1)

  -- those of each lane
  pub all_workable : (lanes : List (Vec Line Global)) → AllAreLinesOf fields lanes → AllByRecursion (λ (lines : Vec Line Global). AreWorkable engine lines.items) lanes
  all_workable [] all = tt
  all_workable (lines ∷ lanes) all = (lane_workable lines.items all.0, all_workable lanes all.1)
