-- What follows of what a call answers.
use Rattle.std.proofs.Common.{Result, Ok, Err, OnOk, IfOk, IfErr}

-- of a value that it answers, of an error, and of an answer without a value
pub ok_more : {A B : Type 0} (P Q : A → Type 0) (r : Result A B) → ((x : A) → P x → Q x)
    → IfOk r P → IfOk r Q
ok_more P Q (Ok x) more is = more x is
ok_more P Q (Err e) more is = tt

pub err_more : {A B : Type 0} (P Q : B → Type 0) (r : Result A B) → ((e : B) → P e → Q e)
    → IfErr r P → IfErr r Q
err_more P Q (Ok x) more is = tt
err_more P Q (Err e) more is = more e is

pub on_ok_more : {A B : Type 0} (P Q : Type 0) (r : Result A B) → (P → Q) → OnOk r P → OnOk r Q
on_ok_more P Q (Ok x) more is = more is
on_ok_more P Q (Err e) more is = tt
