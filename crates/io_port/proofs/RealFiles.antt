-- From what a load of real files leaves to what each shelf promises.
use Rattle.std.proofs.Common.{◌≡◌, ℕ, ◌-◌, ◌^◌, List, Some, None, Result, Ok, Err, Vec, inl, inr, ⊎_elim, ap, subst, sym, arith, IfErr, IfOk, IsErrAnd, Option}
use Rattle.std.proofs.lemmas.Bool.{cases_lt}
use Rattle.std.specs.declared.alloc.Global.{Global}
use Rattle.io_port.specs.Faults.{ShowsFault, next_count}
use Rattle.io_port.specs.FileShelf.{LoadFaults, after_failure}
use Rattle.io_port.specs.Shelf.{IsFileOf, IsTooLong, OnFailed, OnTooLong, UnlessFailed}
use Rattle.io_port.specs.Streams.{HasMore, IsAllOf, ReadsTooMany}
use Rattle.io_port.specs.declared.shelf.ShelfError.{ShelfError}
use Rattle.io_port.specs.declared.shelf.ShelfError.TheVariants.{Failed, TooLong, NoMemory}

-- where no file is told, nothing is asked of the bytes
pub IsFileOf-untold : (result : Result (Vec ℕ Global) ShelfError) (name : List ℕ) → IfOk result (λ bytes. IsFileOf None name bytes.items)
IsFileOf-untold (Ok bytes) name = λ files told. cc
IsFileOf-untold (Err e) name = tt

-- what holds whatever a load gave
pub OnFailed-always : {T P : Type 0} → (result : Result T ShelfError) → P → OnFailed result P
OnFailed-always (Ok x) p = tt
OnFailed-always (Err Failed) p = p
OnFailed-always (Err (TooLong n)) p = tt
OnFailed-always (Err NoMemory) p = tt

-- what follows after a load that failed
pub OnFailed-map : {T P Q : Type 0} → (P → Q) → (result : Result T ShelfError) → OnFailed result P → OnFailed result Q
OnFailed-map f (Ok x) p = tt
OnFailed-map f (Err Failed) p = f p
OnFailed-map f (Err (TooLong n)) p = tt
OnFailed-map f (Err NoMemory) p = tt

-- and after one that didn't
pub UnlessFailed-map : {T P Q : Type 0} → (P → Q) → (result : Result T ShelfError) → UnlessFailed result P → UnlessFailed result Q
UnlessFailed-map f (Ok x) p = f p
UnlessFailed-map f (Err Failed) p = tt
UnlessFailed-map f (Err (TooLong n)) p = f p
UnlessFailed-map f (Err NoMemory) p = f p

-- a count that was raised shows a fault
pub ShowsFault-next_count : (n : ℕ) → ShowsFault n (next_count n)
ShowsFault-next_count n = ⊎_elim (λ low. inl (omega arith)) (λ last. inr (omega arith)) (cases_lt n (2 ^ 64 - 1))

-- after a failure the count shows it, and the name is kept
pub failure_shows : (old new : LoadFaults) (name : List ℕ) → new ≡ after_failure old name → ShowsFault old.faults new.faults × (new.failed ≡ Some name)
failure_shows old new name is = (subst (ShowsFault old.faults) (sym (ap (λ s. s.faults) is)) (ShowsFault-next_count old.faults), ap (λ s. s.failed) is)

-- without one both stay
pub nothing_shows : (old new : LoadFaults) → new ≡ old → (new.faults ≡ old.faults) × (new.failed ≡ old.failed)
nothing_shows old new is = (ap (λ s. s.faults) is, ap (λ s. s.failed) is)

pub UnlessFailed-always : {T P : Type 0} → (result : Result T ShelfError) → P → UnlessFailed result P
UnlessFailed-always (Ok x) p = p
UnlessFailed-always (Err Failed) p = tt
UnlessFailed-always (Err (TooLong n)) p = p
UnlessFailed-always (Err NoMemory) p = p

-- the answer of a load that only lacked memory
pub no_memory : {T : Type 0} → (result : Result T ShelfError) → IsErrAnd result (λ e. e ≡ NoMemory) → result ≡ Err NoMemory
no_memory (Ok x) lacks = absurd lacks
no_memory (Err e) lacks = ap (λ (e : ShelfError). Err e) lacks

-- what was read of an open file is what was loaded
pub loads_all : {F : Type 0} (remaining : F → Option (List ℕ)) (file : F) (result : Result (Vec ℕ Global) ShelfError) → IfOk result (λ bytes. IsAllOf (remaining file) bytes.items)
    → IfOk result (λ bytes. (file : F) × IsAllOf (remaining file) bytes.items)
loads_all remaining file (Ok bytes) read = (file, read)
loads_all remaining file (Err e) read = tt

-- and the file had more where too much was read
pub loads_more : {F : Type 0} (remaining : F → Option (List ℕ)) (file : F) (limit : ℕ) (result : Result (Vec ℕ Global) ShelfError) → IfErr result (ReadsTooMany (remaining file) limit)
    → OnTooLong result ((file : F) × HasMore (remaining file) limit)
loads_more remaining file limit (Ok bytes) read = tt
loads_more remaining file limit (Err Failed) read = tt
loads_more remaining file limit (Err (TooLong n)) read = (file, read.1)
loads_more remaining file limit (Err NoMemory) read = tt

pub IsTooLong-untold : (known : Option (List ℕ)) (name : List ℕ) (limit : ℕ) (result : Result (Vec ℕ Global) ShelfError) → IfErr result (ReadsTooMany known limit) → IfErr result (IsTooLong None name limit)
IsTooLong-untold known name limit (Ok bytes) read = tt
IsTooLong-untold known name limit (Err Failed) read = tt
IsTooLong-untold known name limit (Err (TooLong n)) read = (read.0, λ files told. cc)
IsTooLong-untold known name limit (Err NoMemory) read = tt
