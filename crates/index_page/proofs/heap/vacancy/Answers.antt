use Rattle.std.proofs.Common.{◌<◌, ◌++◌, ◌∷◌, [], length, ap, ◌∙◌, ℕ, ◌≡◌, List}
use Rattle.index_page.specs.Slots.{no_content}
use Rattle.list_facts.proofs.Each.{each_left}
use Rattle.index_page.proofs.StoreLemmas.{grows, rows_in-append}
use Rattle.index_page.specs.Store.{Content, PlaceLists, IsStore}
use Rattle.index_page.proofs.heap.vacancy.Goals as goal

-- vacant places that are as before
same_store : (slots : List Content) (places new : PlaceLists) → new.live ≡ places.live → new.free ≡ places.free → IsStore slots places → IsStore slots new
same_store slots places new live free s = record { differ = rw (live, free) s.differ; slotted = rw (live, free) s.slotted; whole = rw (live, free) s.whole }

pub returns-clause-store : goal.returns-clause-store
returns-clause-store c =
    let free = c.in_default-add.ensures.ok ∙ ap (λ (n : ℕ). c.args.places.now.free ++ n ∷ []) c.len-place.ensures in
    rw c.in_ok-add_blank.ensures.ok (grows c.args.slots.now c.args.places.now c.add.new.self no_content c.requires.store c.in_default-add.ensures.live free)

pub returns-clause-rows : goal.returns-clause-rows
returns-clause-rows c =
    let below = each_left (λ (y : ℕ). y < length c.args.slots.now) c.args.places.now.live c.args.places.now.free c.requires.store.slotted in
    rw (c.in_ok-add_blank.ensures.ok, c.in_default-add.ensures.live) (rows_in-append c.args.slots.now (no_content ∷ []) c.args.places.now.live below)

pub returns-in-Err-clause-store : goal.returns-in-Err-clause-store
returns-in-Err-clause-store c =
    rw (c.drop_last.ensures c.args.slots.now no_content c.in_ok-add_blank.ensures.ok) (same_store c.args.slots.now c.args.places.now c.add.new.self c.in-Err.ensures.live c.in-Err.ensures.err c.requires.store)
