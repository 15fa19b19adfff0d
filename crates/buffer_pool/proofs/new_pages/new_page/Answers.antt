use Rattle.std.proofs.Common.{◌≡◌, ℕ, arith, Result, Ok, Err, sym, subst, ◌∙◌, refl}
use Rattle.forest_law.specs.declared.objects.Object.TheVariants as object
use Rattle.index_page.specs.Page.{IsNeighbour}
use Rattle.buffer_pool.specs.declared.error.PoolError.{PoolError}
use Rattle.buffer_pool.specs.declared.error.PoolError.TheVariants as refused
use Rattle.buffer_pool.proofs.AgainLemmas.{gives_none, passes_both}
use Rattle.buffer_pool.proofs.CallLemmas.{pool_has}
use Rattle.buffer_pool.proofs.NewPageLemmas.{free_both, may_new, gets_page}
use Rattle.buffer_pool.proofs.new_pages.new_page.Goals as goal

-- a space that is full is not a want of memory
full_not_memory : (e : PoolError) → e ≡ refused.SpaceFull → e ≡ refused.NoMemory → ⊥
full_not_memory e full memory = absurd cc

-- nor the other way round
memory_not_full : (r : Result ℕ PoolError) → r ≡ Err refused.NoMemory → r ≡ Err refused.SpaceFull → ⊥
memory_not_full r memory full = absurd cc

-- a block is no refusal
ok_not_err : (b : ℕ) (e : PoolError) → Ok b ≡ Err e → ⊥
ok_not_err b e is = absurd cc

pub returns-in_default-clause-memory : goal.returns-in_default-clause-memory
returns-in_default-clause-memory g c = λ e. (gives_none c.args.pass.now c.requires.known).got

pub returns-in_err-number-clause-full : goal.returns-in_err-number-clause-full
returns-in_err-number-clause-full g c = λ e. c.in_err-number.ensures.full.1

pub returns-in_err-number-clause-memory : goal.returns-in_err-number-clause-memory
returns-in_err-number-clause-memory g c = λ e. let r = rw e at c.from_residual.ensures in
    absurd (full_not_memory _ c.in_err-number.ensures.full.0 (sym r.1))

pub restart-requires-clause-prev : goal.restart-requires-clause-prev
restart-requires-clause-prev g c =
    subst (λ h. IsNeighbour h.prev) (sym c.own_head-2.ensures) c.in_ok-number.ensures.ok.named

pub bring-requires-clause-may : goal.bring-requires-clause-may
bring-requires-clause-may g c = may_new c.args.pass.now c.hold_room.new.pass c.args.head
    c.in_ok-number.number c.in_ok-number.block c.in_ok-number.ensures.ok c.restart.new.self
    (c.restart.ensures.head ∙ c.own_head-2.ensures) c.restart.ensures.rows
    c.hold_room.ensures.fits c.requires.index c.requires.fields c.requires.inside

pub give_pool_back-requires-clause-held : goal.give_pool_back-requires-clause-held
give_pool_back-requires-clause-held g c = let free = c.in_ok-number.ensures.ok in
    let brought = c.bring.ensures.brought (object.Pool free.pool) free.now free.frame
    (free_both c.args.pass.now c.hold_room.new.pass c.args.head c.in_ok-number.number
    c.in_ok-number.block free) in (
      brought.pool,
      pool_has c.bring.new.pass brought.turns.both.known (object.Pool free.pool) brought.pool
          brought.turns.both.pool,
    )

pub returns-clause-ok : goal.returns-clause-ok
returns-clause-ok g c = let free = c.in_ok-number.ensures.ok in
    gets_page c.args.pass.now c.hold_room.new.pass c.args.head c.in_ok-number.number
    c.in_ok-number.block free c.restart.new.self
    (c.restart.ensures.head ∙ c.own_head-2.ensures) c.restart.ensures.rows c.bring.new.pass
    c.give_pool_back.new.pass
    (c.bring.ensures.brought (object.Pool free.pool) free.now free.frame
    (free_both c.args.pass.now c.hold_room.new.pass c.args.head c.in_ok-number.number
    c.in_ok-number.block free)) c.give_pool_back.ensures.gave c.requires.tables

pub returns-clause-own : goal.returns-clause-own
returns-clause-own g c = (
  passes_both c.args.pass.now c.hold_room.new.pass c.give_pool_back.new.pass
      c.hold_room.ensures.own.0 (passes_both c.hold_room.new.pass c.bring.new.pass
      c.give_pool_back.new.pass c.bring.ensures.own.0 c.give_pool_back.ensures.own.0),
  c.give_pool_back.ensures.own.1,
)

pub returns-clause-fits : goal.returns-clause-fits
returns-clause-fits g c = c.give_pool_back.ensures.fits

pub returns-in_err-number-clause-own : goal.returns-in_err-number-clause-own
returns-in_err-number-clause-own g c = c.hold_room.ensures.own

pub returns-in_err-number-clause-fits : goal.returns-in_err-number-clause-fits
returns-in_err-number-clause-fits g c = c.hold_room.ensures.fits

pub returns-in_default-clause-own : goal.returns-in_default-clause-own
returns-in_default-clause-own g c = ((refl, refl), c.requires.own.1)

pub returns-in_default-clause-fits : goal.returns-in_default-clause-fits
returns-in_default-clause-fits g c = c.fits.ensures

pub returns-clause-memory : goal.returns-clause-memory
returns-clause-memory g c = λ e. absurd (ok_not_err _ _ e)

pub returns-clause-full : goal.returns-clause-full
returns-clause-full g c = λ e. absurd (ok_not_err _ _ e)

pub restart-requires-clause-next : goal.restart-requires-clause-next
restart-requires-clause-next g c =
    subst (λ h. IsNeighbour h.next) (sym c.own_head-2.ensures) c.requires.next

pub returns-in_default-clause-full : goal.returns-in_default-clause-full
returns-in_default-clause-full g c = λ e.
    absurd (memory_not_full _ refl e)

pub give_pool_back-requires-clause-own : goal.give_pool_back-requires-clause-own
give_pool_back-requires-clause-own g c = c.bring.ensures.own.1

pub bring-requires-clause-own : goal.bring-requires-clause-own
bring-requires-clause-own g c = (c.requires.own.0, c.hold_room.ensures.own.1)

pub empty-requires-clause-next : goal.empty-requires-clause-next
empty-requires-clause-next g c =
    subst (λ h. IsNeighbour h.next) (sym c.own_head.ensures) c.requires.next

pub empty-requires-clause-prev : goal.empty-requires-clause-prev
empty-requires-clause-prev g c =
    subst (λ h. IsNeighbour h.prev) (sym c.own_head.ensures) (λ e. omega (arith, e))
