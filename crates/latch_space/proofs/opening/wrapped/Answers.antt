use Rattle.std.proofs.Common.{◌≡◌, ◌<◌, ◌≤◌, ◌+◌, ℕ, Some, Option, List, [], ◌∷◌, ◌++◌, length, map, refl, ap, sym, ◌∙◌, arith, append_assoc, append-nil, length-append, vec_len, vec_capacity}
use lib.ListN.{length-map}
use mathlib.Core.List.{map-append}
use Rattle.std.specs.Vec.Iter.{into_iter_items, into_iter_len}
use Rattle.latch_space.proofs.opening.wrapped.Goals as goal

nothing_left : {X : Type 0} (xs : List X) → length xs ≡ 0 → xs ≡ []
nothing_left [] none = refl
nothing_left (x ∷ xs) none = absurd (omega arith)

-- the list of all, of which ys are done and x is the next one before zs
module _ {X : Type 0} (all ys zs before : List X) (x : X) (steps : before ≡ x ∷ zs) where
  rest_more : ys ++ before ≡ all → (ys ++ x ∷ []) ++ zs ≡ all
  rest_more so_far = append_assoc ys (x ∷ []) zs ∙ (ap (λ (z : List X). ys ++ z) (sym steps) ∙ so_far)

  count_more : (n n' : ℕ) → n ≡ length before → n ≡ n' + 1 → n' ≡ length zs
  count_more n n' count less = let shorter = ap length steps in omega (arith, count, shorter, less)

  room_left : (slots : List (Option X)) (len cap : ℕ) → ys ++ before ≡ all → slots ≡ map Some ys → len ≡ length slots → length all ≤ cap → len < cap
  room_left slots len cap so_far boxed is room = let done = ap length boxed ∙ length-map ys Some in let left = sym (length-append ys before) ∙ ap length so_far in let shorter = ap length steps in omega (arith, done, left, shorter, room, is)

boxed_more : {X : Type 0} (ys : List X) (x : X) (slots slots' : List (Option X)) (slot boxed : Option X) → slots ≡ map Some ys → slot ≡ boxed → boxed ≡ Some x → slots' ≡ slots ++ slot ∷ [] → slots' ≡ map Some (ys ++ x ∷ [])
boxed_more ys x slots slots' slot boxed so_far is object now = now ∙ ((λ k. so_far k ++ (is ∙ object) k ∷ []) ∙ sym (map-append Some ys (x ∷ [])))

room_first : (n l len cap : ℕ) → n ≤ cap → len ≡ l → n ≡ len → l ≤ cap
room_first n l len cap room is same = omega (arith, room, is, same)

room_still : (n cap cap' : ℕ) → n ≤ cap → cap' ≡ cap → n ≤ cap'
room_still n cap cap' room same = omega (arith, room, same)

pub loop-object-init : goal.loop-object-init
loop-object-init g c = let gives = c.into_iter-object-iterator.ensures.into_iter_gives in let xs = c.args.objects.items in record {
  rest = gives.0;
  count = gives.1 ∙ (c.args.objects.ok.0 ∙ ap length (sym gives.0));
  boxed = c.in-Ok.ensures.items;
  room = room_first c.len.result (length xs) (vec_len c.args.objects) (vec_capacity c.in-Ok.slots) c.in-Ok.ensures.capacity c.args.objects.ok.0 c.len.ensures;
}

pub push_reserved-requires : goal.push_reserved-requires
push_reserved-requires g c = let so_far = c.loop-object.invariant in
    room_left c.args.objects.items c.loop-object.yielded (into_iter_items c.next.new.self) (into_iter_items c.loop-object.object-iterator) c.in-Some.object c.in-Some.ensures.steps.0
    c.loop-object.slots.items (vec_len c.loop-object.slots) (vec_capacity c.loop-object.slots) so_far.rest so_far.boxed c.loop-object.slots.ok.0 so_far.room

pub loop-object-preserved : goal.loop-object-preserved
loop-object-preserved g c = let so_far = c.loop-object.invariant in record {
  rest = rest_more c.args.objects.items c.loop-object.yielded (into_iter_items c.next.new.self) (into_iter_items c.loop-object.object-iterator) c.in-Some.object c.in-Some.ensures.steps.0 so_far.rest;
  count = count_more c.args.objects.items c.loop-object.yielded (into_iter_items c.next.new.self) (into_iter_items c.loop-object.object-iterator) c.in-Some.object c.in-Some.ensures.steps.0 (into_iter_len c.loop-object.object-iterator) (into_iter_len c.next.new.self) so_far.count (let len = c.in-Some.ensures.steps.1 in omega (arith, len));
  boxed = boxed_more c.loop-object.yielded c.in-Some.object c.loop-object.slots.items c.push_reserved.new.self.items c.new-slot.result c.in-Ok-new.boxed so_far.boxed c.new-slot.ensures c.in-Ok-new.ensures c.push_reserved.ensures.items;
  room = room_still (length c.args.objects.items) (vec_capacity c.loop-object.slots) (vec_capacity c.push_reserved.new.self) so_far.room c.push_reserved.ensures.capacity;
}

pub returns : goal.returns
returns g c =
    let so_far = c.loop-object.invariant in
    let empty : into_iter_items c.loop-object.object-iterator ≡ [] = nothing_left _ (sym so_far.count ∙ c.in-None.ensures.steps.0) in
    let all : c.loop-object.yielded ≡ c.args.objects.items = sym (append-nil c.loop-object.yielded) ∙ (ap (λ zs. c.loop-object.yielded ++ zs) (sym empty) ∙ so_far.rest) in
    so_far.boxed ∙ ap (map Some) all

pub loop-object-preserved-derived : goal.loop-object-preserved-derived
loop-object-preserved-derived g c = (tt, tt)
