-- A word tells its fields.
use Rattle.std.proofs.Common.{◌≡◌, ℕ, zero, suc, ◌+◌, ◌*◌, ◌<◌, ◌≤◌, Bool, true, false, ◌==◌, refl, arith}
use mir.Val.{bool_byte}
use Rattle.learning.specs.declared.info.Info.{Info}
use Rattle.learning.specs.Word.{bit_of, word_of, FitsWord}

-- a bit is at most 1
pub bit_below : (b : Bool) → bit_of b ≤ 1
bit_below true = omega arith
bit_below false = omega arith

-- the bit of a number's test for 1 is the number, where that is a bit
pub bit_of_test : (n : ℕ) → n < 2 → bit_of (n == 1) ≡ n
bit_of_test zero h = refl
bit_of_test (suc zero) h = refl
bit_of_test (suc (suc n)) h = absurd (omega arith)

bit_tells : (a b : Bool) → bit_of a ≡ bit_of b → a ≡ b
bit_tells true true e = refl
bit_tells true false e = absurd (omega arith)
bit_tells false true e = absurd (omega arith)
bit_tells false false e = refl

-- the fields of two infos with one word
pub record Told (i j : Info) : Type 0 where
  pub last : bit_of i.last ≡ bit_of j.last
  pub left : bit_of i.params.left ≡ bit_of j.params.left
  pub potential : i.potential ≡ j.potential
  pub analysis : i.analysis ≡ j.analysis
  pub fields : i.params.fields ≡ j.params.fields
  pub bytes : i.params.bytes ≡ j.params.bytes
  pub events : i.events ≡ j.events

pub fields_told : (i j : Info) → FitsWord i → FitsWord j → word_of i ≡ word_of j → Told i j
fields_told i j f g e =
    let a = bit_below i.last in let b = bit_below j.last in let c = bit_below i.params.left in let d = bit_below j.params.left in
    record {
      last = omega (arith, e);
      left = omega (arith, e);
      potential = omega (arith, e);
      analysis = omega (arith, e);
      fields = omega (arith, e);
      bytes = omega (arith, e);
      events = omega (arith, e);
    }

-- two infos with the same fields are one
pub same_info : (i j : Info) → Told i j → i ≡ j
same_info i j t = let last : i.last ≡ j.last = bit_tells i.last j.last t.last in let left : i.params.left ≡ j.params.left = bit_tells i.params.left j.params.left t.left in
    λ k. record { analysis = t.analysis k; potential = t.potential k; params = record { fields = t.fields k; bytes = t.bytes k; left = left k }; last = last k; events = t.events k }

pub word_tells : (i j : Info) → FitsWord i → FitsWord j → word_of i ≡ word_of j → i ≡ j
word_tells i j f g e = same_info i j (fields_told i j f g e)

-- a test as a byte is its bit
pub byte_is_bit : (b : Bool) → bool_byte b ≡ bit_of b
byte_is_bit true = refl
byte_is_bit false = refl

-- the sums of the first fields at their places, each in 64 bits
pub record SumsFit (a b p n f y e : ℕ) : Type 0 where
  pub three : a * 1 + b * 2 + p * 4 < 18446744073709551616
  pub four : a * 1 + b * 2 + p * 4 + n * 512 < 18446744073709551616
  pub five : a * 1 + b * 2 + p * 4 + n * 512 + f * 16384 < 18446744073709551616
  pub six : a * 1 + b * 2 + p * 4 + n * 512 + f * 16384 + y * 131072 < 18446744073709551616
  pub all : a * 1 + b * 2 + p * 4 + n * 512 + f * 16384 + y * 131072 + e * 4294967296 < 18446744073709551616

pub sums_fit : (a b p n f y e : ℕ) → a ≤ 1 → b ≤ 1 → p < 128 → n < 32 → f < 8 → y < 1024 → e < 4294967296 → SumsFit a b p n f y e
sums_fit a b p n f y e ha hb hp hn hf hy he =
    let all : a * 1 + b * 2 + p * 4 + n * 512 + f * 16384 + y * 131072 + e * 4294967296 < 18446744073709551616 = omega arith in
    record { three = omega arith; four = omega arith; five = omega arith; six = omega arith; all = all }
