-- The head that is read from the bytes, and the bytes around it.
use Rattle.std.proofs.Common.{◌≡◌, ◌≢◌, ℕ, ◌+◌, ◌-◌, ◌*◌, ◌≤◌, Option, Some, None, false, List, slice_index, nat_eq, refl, ap, ap₂, ◌∙◌, arith, inl, inr}
use Rattle.std.proofs.lemmas.Bool.Decides.{nat_tests}
use Rattle.compact_record.specs.Bytes.{u16_at, SameOutside}
use Rattle.compact_record.proofs.BytesLemmas.{u16_kept}
use Rattle.page_mirror.specs.Mirror.{Mirror, Mirrors}
use Rattle.page_mirror.proofs.KeptLemmas.{starts_above, top_above, cell_kept}
use Rattle.index_page.specs.declared.TheConstants.{NO_PAGE}
use Rattle.index_page.specs.declared.head.PageHead.{PageHead}
use Rattle.index_page.specs.Page.{IsNeighbour, linked}
use Rattle.byte_page.specs.Form.{u32_at, neighbour, head_in_bytes, SameFront}

pub same_head : (number number' index index' level level' prev prev' next next' fields : ℕ) → number ≡ number' → index ≡ index' → level ≡ level' → prev ≡ prev' → next ≡ next'
    → (let a : PageHead = record { number = number; index = index; level = level; prev = neighbour prev; next = neighbour next; fields = fields } in a)
    ≡ (let b : PageHead = record { number = number'; index = index'; level = level'; prev = neighbour prev'; next = neighbour next'; fields = fields } in b)
same_head number number' index index' level level' prev prev' next next' fields a b c d e =
    λ i. record { number = a i; index = b i; level = c i; prev = neighbour (d i); next = neighbour (e i); fields = fields }

u16_same : (old new : List ℕ) (at : ℕ) → slice_index new at ≡ slice_index old at → slice_index new (at + 1) ≡ slice_index old (at + 1) → u16_at new at ≡ u16_at old at
u16_same old new at a b = ap₂ (λ x y. x * 256 + y) a b

u32_same : (old new : List ℕ) (at : ℕ) → u16_at new at ≡ u16_at old at → u16_at new (at + 2) ≡ u16_at old (at + 2) → u32_at new at ≡ u32_at old at
u32_same old new at a b = ap₂ (λ x y. x * 65536 + y) a b

-- where the bytes around the numbers are the same, the head is
pub head_same : {old new : List ℕ} (fields : ℕ) → SameFront old new → head_in_bytes new fields ≡ head_in_bytes old fields
head_same {old} {new} fields f =
    let low : (at : ℕ) → at + 4 ≤ 38 → u32_at new at ≡ u32_at old at =
    λ at w. u32_same old new at (u16_same old new at (f.low at (omega arith)) (f.low (at + 1) (omega arith))) (u16_same old new (at + 2) (f.low (at + 2) (omega arith)) (f.low (at + 2 + 1) (omega arith))) in
    same_head _ _ _ _ _ _ _ _ _ _ fields (low 4 (omega arith))
    (u32_same old new 70 (u16_same old new 70 (f.high 70 (omega arith) (omega arith)) (f.high 71 (omega arith) (omega arith))) (u16_same old new 72 (f.high 72 (omega arith) (omega arith)) (f.high 73 (omega arith) (omega arith))))
    (u16_same old new 64 (f.high 64 (omega arith) (omega arith)) (f.high 65 (omega arith) (omega arith)))
    (low 8 (omega arith)) (low 12 (omega arith))

-- a number that is no page's stands for none
pub neighbour_some : (n : ℕ) → n ≢ NO_PAGE → neighbour n ≡ Some n
neighbour_some n other = let isnt : nat_eq n NO_PAGE ≡ false = grind (arith, nat_tests, other) in rw isnt refl

pub neighbour_told : (o : Option ℕ) (n : ℕ) → IsNeighbour o → ((k : ℕ) → o ≡ Some k → n ≡ k) → (o ≡ None → n ≡ NO_PAGE) → neighbour n ≡ o
neighbour_told None n is some none = rw (none refl) refl
neighbour_told (Some k) n is some none = rw (some k refl) (neighbour_some k is)

-- other neighbours in the mirror
pub links_written : {old new : List ℕ} {m : Mirror} → Mirrors old m → SameOutside old new 8 16 → Mirrors new (record m { fixed = λ k. slice_index new k })
links_written {m = m} r same =
    let room = r.room in
    let begins = top_above r.heap in
    record {
      len = same.len ∙ r.len;
      heap = r.heap;
      head = record {
        dir_slots = u16_kept same 38 (inr (omega arith)) ∙ r.head.dir_slots;
        heap_top = u16_kept same 40 (inr (omega arith)) ∙ r.head.heap_top;
        n_heap = u16_kept same 42 (inr (omega arith)) ∙ r.head.n_heap;
        first_free = u16_kept same 44 (inr (omega arith)) ∙ r.head.first_free;
        garbage = u16_kept same 46 (inr (omega arith)) ∙ r.head.garbage;
        n_recs = u16_kept same 54 (inr (omega arith)) ∙ r.head.n_recs;
      };
      fixed = record { front = λ k h. refl; middle = λ k g h. refl; back = λ k g h. refl; end = λ k h. refl };
      leads = r.leads;
      cells = λ h w. let low = starts_above r.heap h w in cell_kept (m.cell h) same (inr (omega arith)) (r.cells h w);
      names = r.names;
      slots = λ s w. u16_kept same (16374 - 2 * s) (inr (omega arith)) ∙ r.slots s w;
      room = room;
      unused = λ k g w. same.above k (omega arith) ∙ r.unused k g w;
    }

linked_with : (number number' index index' level level' fields : ℕ) (prev prev' next next' : Option ℕ) → number ≡ number' → index ≡ index' → level ≡ level' → prev ≡ prev' → next ≡ next'
    → (let a : PageHead = record { number = number; index = index; level = level; prev = prev; next = next; fields = fields } in a)
    ≡ (let b : PageHead = record { number = number'; index = index'; level = level'; prev = prev'; next = next'; fields = fields } in b)
linked_with number number' index index' level level' fields prev prev' next next' a b c d e =
    λ i. record { number = a i; index = b i; level = c i; prev = d i; next = e i; fields = fields }

-- the head with other neighbours
pub linked_head : {old new : List ℕ} (fields : ℕ) → SameOutside old new 8 16 → (prev next : Option ℕ) → neighbour (u32_at new 8) ≡ prev → neighbour (u32_at new 12) ≡ next
    → head_in_bytes new fields ≡ linked (head_in_bytes old fields) prev next
linked_head {old} {new} fields same prev next prev_is next_is =
    linked_with _ _ _ _ _ _ fields _ _ _ _
    (u32_same old new 4 (u16_kept same 4 (inl (omega arith))) (u16_kept same 6 (inl (omega arith))))
    (u32_same old new 70 (u16_kept same 70 (inr (omega arith))) (u16_kept same 72 (inr (omega arith))))
    (u16_kept same 64 (inr (omega arith))) prev_is next_is

-- the head that was written: the numbers, then the neighbours
pub head_written : {b1 b2 b3 b4 b5 b6 b7 : List ℕ} (head : PageHead) → u32_at b1 4 ≡ head.number → SameOutside b1 b2 8 16 → neighbour (u32_at b2 8) ≡ head.prev → neighbour (u32_at b2 12) ≡ head.next
    → SameOutside b2 b3 24 26 → SameOutside b3 b4 50 52 → SameOutside b4 b5 64 66 → u16_at b5 64 ≡ head.level → SameOutside b5 b6 66 70 → SameOutside b6 b7 70 74 → u32_at b7 70 ≡ head.index
    → head_in_bytes b7 head.fields ≡ head
head_written {b1} {b2} {b3} {b4} {b5} {b6} {b7} head number s2 prev next s3 s4 s5 level s6 s7 index =
    let back : (at : ℕ) → at + 4 ≤ 24 → u32_at b7 at ≡ u32_at b2 at =
    λ at w. u32_same b2 b7 at
    (u16_kept s7 at (inl (omega arith)) ∙ u16_kept s6 at (inl (omega arith)) ∙ u16_kept s5 at (inl (omega arith)) ∙ u16_kept s4 at (inl (omega arith)) ∙ u16_kept s3 at (inl (omega arith)))
    (u16_kept s7 (at + 2) (inl (omega arith)) ∙ u16_kept s6 (at + 2) (inl (omega arith)) ∙ u16_kept s5 (at + 2) (inl (omega arith)) ∙ u16_kept s4 (at + 2) (inl (omega arith)) ∙ u16_kept s3 (at + 2) (inl (omega arith))) in
    linked_with _ _ _ _ _ _ head.fields _ _ _ _
    (back 4 (omega arith) ∙ u32_same b1 b2 4 (u16_kept s2 4 (inl (omega arith))) (u16_kept s2 6 (inl (omega arith))) ∙ number)
    index
    (u16_kept s7 64 (inl (omega arith)) ∙ u16_kept s6 64 (inl (omega arith)) ∙ level)
    (ap neighbour (back 8 (omega arith)) ∙ prev)
    (ap neighbour (back 12 (omega arith)) ∙ next)
