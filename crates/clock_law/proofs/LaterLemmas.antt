-- Later marks.
use Rattle.std.proofs.Common.{◌≡◌, ◌≤◌, ℕ, inl, inr, List, [], ◌∷◌, ◌++◌, sym, subst, ◌∙◌, arith, refl, le_refl, Option, Some, None, false}
use Rattle.std.proofs.lemmas.Bool.{cases_lt}
use Rattle.index_page.specs.Rows.{Row}
use Rattle.tree_law.specs.TreeShape.{In}
use Rattle.tree_law.specs.Pages.{Page, is_own}
use Rattle.clock_law.specs.ModifyClock.{NumberedPage, ClockMark, HasKeyAt, KeysStay, PageStays, GuardStays, IsLater, ClockRises}
use Rattle.clock_law.specs.LaterMarks.{mark_over, LaterIsAnOrder, ChangesAreLater, StillGuards, EqualClocksKeepPlaces, LostRowsRaise}

-- a row's key is at its place
pub has_in : (xs : List Row) (x : Row) → In x xs → HasKeyAt xs x.place x.key
has_in xs x among = record { row = x; among = among; place_is = refl; key_is = refl }

-- a page stays itself
pub page_itself : (x : NumberedPage) → PageStays x x
page_itself x = record {
  number = refl;
  index = refl;
  level = refl;
  fields = refl;
  low = refl;
  high = refl;
  own = refl;
  rows = λ r among. has_in x.page.rows r among;
}

-- what stays from the second to the third stays from the first
pub page_through : (x y z : NumberedPage) → PageStays x y → PageStays y z → PageStays x z
page_through x y z a b = record {
  number = b.number ∙ a.number;
  index = b.index ∙ a.index;
  level = b.level ∙ a.level;
  fields = b.fields ∙ a.fields;
  low = b.low ∙ a.low;
  high = b.high ∙ a.high;
  own = b.own ∙ a.own;
  rows = λ r among. (let h = a.rows r among in let k = b.rows h.row h.among in record {
    row = k.row;
    among = k.among;
    place_is = k.place_is ∙ h.place_is;
    key_is = k.key_is ∙ h.key_is;
  });
}

pub guard_itself : (x : Option NumberedPage) → GuardStays x x
guard_itself None = tt
guard_itself (Some x) = page_itself x

guard_through : (x y z : Option NumberedPage) → GuardStays x y → GuardStays y z → GuardStays x z
guard_through None y z a b = tt
guard_through (Some x) None z a b = absurd a
guard_through (Some x) (Some y) None a b = absurd b
guard_through (Some x) (Some y) (Some z) a b = page_through x y z a b

pub later_itself : (m : ClockMark) → IsLater m m
later_itself m = record { clock = le_refl m.clock; kept = λ same below. guard_itself m.guards }

pub later_through : (l m n : ClockMark) → IsLater l m → IsLater m n → IsLater l n
later_through l m n a b = let up = a.clock in let on = b.clock in record {
  clock = omega (arith, up, on);
  kept = λ same below. guard_through l.guards m.guards n.guards
      (a.kept (omega (arith, up, on, same)) below)
      (b.kept (omega (arith, up, on, same)) (omega (arith, up, on, same, below)));
}

-- a clock that rises, whatever becomes of the page
pub rises_later : (m n : ClockMark) → ClockRises m.clock n.clock → IsLater m n
rises_later m n r = record {
  clock = r.clock;
  kept = λ same below. (let last = r.stays_last same in absurd (omega (arith, below, last)));
}

-- a clock that doesn't fall, over what stays
pub stays_later : (m n : ClockMark) → m.clock ≤ n.clock → GuardStays m.guards n.guards
    → IsLater m n
stays_later m n up stays = record { clock = up; kept = λ same below. stays }

in_more : (xs ys : List Row) (x r : Row) → In r (xs ++ ys) → In r (xs ++ x ∷ ys)
in_more [] ys x r among = inr among
in_more (z ∷ xs) ys x r (inl e) = inl e
in_more (z ∷ xs) ys x r (inr among) = inr (in_more xs ys x r among)

-- one row more between others
pub keys_between : (xs ys : List Row) (x : Row) → KeysStay (xs ++ ys) (xs ++ x ∷ ys)
keys_between xs ys x r among = has_in (xs ++ x ∷ ys) r (in_more xs ys x r among)

-- a page with other rows that keep the keys' places
pub rows_stay : (n : ℕ) (page : Page) (rows : List Row) → KeysStay page.rows rows
    → PageStays (record { number = n; page = page })
    (record { number = n; page = record page { rows = rows } })
rows_stay n page rows keys = record {
  number = refl;
  index = refl;
  level = refl;
  fields = refl;
  low = refl;
  high = refl;
  own = refl;
  rows = keys;
}

-- a page of the trees with another left neighbour
pub neighbour_stays : (n : ℕ) (page : Page) (p q : Option ℕ) → is_own n p ≡ false
    → is_own n q ≡ false
    → PageStays (record { number = n; page = record page { prev = p } })
    (record { number = n; page = record page { prev = q } })
neighbour_stays n page p q a b = record {
  number = refl;
  index = refl;
  level = refl;
  fields = refl;
  low = refl;
  high = refl;
  own = b ∙ sym a;
  rows = λ r among. has_in page.rows r among;
}

pub order : LaterIsAnOrder
order = record { itself = later_itself; through = later_through }

pub changes : ChangesAreLater
changes = record {
  one_step = λ c most. record {
    clock = omega (arith, most);
    stays_last = λ same. omega (arith, most, same);
  };
  rises = rises_later;
  rows_come = λ n c c' page rows up keys. stays_later (mark_over c n page)
      (mark_over c' n (record page { rows = rows })) up (rows_stay n page rows keys);
  row_between = keys_between;
  neighbour = λ n c c' page p q up a b. stays_later (mark_over c n (record page { prev = p }))
      (mark_over c' n (record page { prev = q })) up (neighbour_stays n page p q a b);
}

still : (x : NumberedPage) (m : ClockMark) (g : Option NumberedPage) → m.guards ≡ g
    → GuardStays (Some x) g → StillGuards x m
still x m None e k = absurd k
still x m (Some y) e k = record { now = y; guards = e; keeps = k }

pub equal_clocks : EqualClocksKeepPlaces
equal_clocks old new x later was same below =
    still x new new.guards refl (subst (λ g. GuardStays g new.guards) was (later.kept same below))

pub lost_rows : LostRowsRaise
lost_rows old new x y row later was is among lost below = elim (cases_lt old.clock new.clock) [
  | inl less ↦ less
  | inr most ↦ (let up = later.clock in absurd (lost (keeps (omega (arith, up, most)))))
]
  where
    keeps : new.clock ≡ old.clock → HasKeyAt y.page.rows row.place row.key
    keeps same = let kept = subst (λ g. GuardStays g new.guards) was (later.kept same below) in
        (subst (GuardStays (Some x)) is kept).rows row among
