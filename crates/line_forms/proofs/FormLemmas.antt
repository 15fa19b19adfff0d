-- One line is a form of lines, and so is one form after another.
use Rattle.std.proofs.Common.{◌≡◌, ℕ, ◌+◌, Option, Some, None, Result, Ok, Err, List, [], ◌∷◌, ◌++◌, refl, sym, ap, ◌∙◌, subst, inl, inr, ◌⊎◌, append_assoc}
use Rattle.line_forms.specs.LineForms.{Lines, Reading, StopsAt, IsLineForm, read_line, in_line, with_first, read_second, read_both, both_lines, both_fit}

-- of two beginnings of one list one begins the other
record Longer {A : Type 0} (xs ys zs ws : List A) : Type 0 where
  item : A
  more : List A
  is : xs ≡ zs ++ item ∷ more
  rest : ws ≡ item ∷ (more ++ ys)

record Shorter {A : Type 0} (xs ys zs ws : List A) : Type 0 where
  more : List A
  is : zs ≡ xs ++ more
  rest : ys ≡ more ++ ws

parts : {A : Type 0} (xs ys zs ws : List A) → xs ++ ys ≡ zs ++ ws → Longer xs ys zs ws ⊎ Shorter xs ys zs ws
parts [] ys zs ws e = inr (record { more = zs; is = refl; rest = e })
parts (x ∷ xs) ys [] ws e = inl (record { item = x; more = xs; is = refl; rest = sym e })
parts (x ∷ xs) ys (z ∷ zs) ws e =
    let first : x ≡ z = cc in
    let rest : xs ++ ys ≡ zs ++ ws = cc in
    elim (parts xs ys zs ws rest) [
      | inl l ↦ inl (record { item = l.item; more = l.more; is = ap (λ t. t ∷ xs) first ∙ ap (λ ts. z ∷ ts) l.is; rest = l.rest })
      | inr s ↦ inr (record { more = s.more; is = ap (λ t. t ∷ zs) (sym first) ∙ ap (λ ts. x ∷ ts) s.is; rest = s.rest })
    ]

pub ok_is : {A B : Type 0} (x y : A) → ◌≡◌ {A = Result A B} (Ok x) (Ok y) → x ≡ y
ok_is {A = A} {B = B} x y e = ap (value x) e
  where
    value : A → Result A B → A
    value d (Ok z) = z
    value d (Err r) = d

pub err_is : {A B : Type 0} (x y : B) → ◌≡◌ {A = Result A B} (Err x) (Err y) → x ≡ y
err_is {A = A} {B = B} x y e = ap (value x) e
  where
    value : B → Result A B → B
    value d (Ok z) = d
    value d (Err r) = r

-- one line
module _ {A : Type 0} (Fits : A → Type 0) (text : A → List ℕ) (read : List ℕ → Option A) (some : A) (some_fits : Fits some)
    (again : (x : A) → Fits x → read (text x) ≡ Some x) (written : (line : List ℕ) (x : A) → read line ≡ Some x → Fits x × (line ≡ text x)) where
  line_ok : (lines rest : Lines) (x : A) → read_line read lines ≡ Ok (x, rest) → Fits x × (lines ≡ text x ∷ rest)
  line_ok [] rest x e = absurd cc
  line_ok (line ∷ lines) rest x e = go (read line) refl e
    where
      go : (o : Option A) → read line ≡ o → ◌≡◌ {A = Reading A} (elim o [ None ↦ Err (line ∷ lines) | Some y ↦ Ok (y, lines) ]) (Ok (x, rest)) → Fits x × ((line ∷ lines) ≡ text x ∷ rest)
      go None is f = absurd cc
      go (Some y) is f =
          let pair = ok_is (y, lines) (x, rest) f in
          let h = written line y is in
          let item : y ≡ x = ap (λ (p : A × Lines). p.0) pair in
          let left : lines ≡ rest = ap (λ (p : A × Lines). p.1) pair in
          (subst (λ z. Fits z) item h.0, ap (λ (l : List ℕ). l ∷ lines) (h.1 ∙ ap text item) ∙ ap (λ (ls : Lines). text x ∷ ls) left)

  line_stops : (lines rest : Lines) → read_line read lines ≡ Err rest → StopsAt Fits (in_line text) lines rest
  line_stops [] rest e = record {
    front = [];
    split = err_is [] rest e;
    one = some;
    fits = some_fits;
    more = text some ∷ [];
    begun = refl;
    none = λ x line behind later fits is begins. absurd (cc (err_is [] rest e ∙ is));
  }
  line_stops (line ∷ lines) rest e = go (read line) refl e
    where
      go : (o : Option A) → read line ≡ o → ◌≡◌ {A = Reading A} (elim o [ None ↦ Err (line ∷ lines) | Some y ↦ Ok (y, lines) ]) (Err rest) → StopsAt Fits (in_line text) (line ∷ lines) rest
      go (Some y) is f = absurd cc
      go None is f =
          let left : line ∷ lines ≡ rest = err_is (line ∷ lines) rest f in
          record {
            front = [];
            split = left;
            one = some;
            fits = some_fits;
            more = text some ∷ [];
            begun = refl;
            none = λ x next behind later fits at begins.
                let here : line ≡ next = cc (left ∙ at) in
                let said : text x ≡ next = cc begins in
                absurd (cc (sym is ∙ (ap read (here ∙ sym said) ∙ again x fits)));
          }

  pub one_line_form : IsLineForm Fits (in_line text) (read_line read)
  one_line_form = record {
    some = some;
    some_fits = some_fits;
    again = λ x rest fits. ap (λ (o : Option A). elim o [ None ↦ Err (text x ∷ rest) | Some y ↦ Ok (y, rest) ]) (again x fits);
    fits = λ lines rest x e. (line_ok lines rest x e).0;
    written = λ lines rest x e. (line_ok lines rest x e).1;
    stops = line_stops;
  }

-- one thing and then another
module _ {A B : Type 0} (First : A → Type 0) (Second : A → B → Type 0) (lines : A → Lines) (later : A → B → Lines) (read : Lines → Reading A) (go_on : A → Lines → Reading B)
    (one : IsLineForm First lines read) (two : (x : A) → First x → IsLineForm (Second x) (later x) (go_on x)) where
  abbrev pub both : Lines → Reading (A × B)
  both = read_both read go_on

  both_again : (x : A × B) (rest : Lines) → both_fit First Second x → both (both_lines lines later x ++ rest) ≡ Ok (x, rest)
  both_again x rest fits =
      ap (read_second go_on) (ap read (append_assoc (lines x.0) (later x.0 x.1) rest) ∙ one.again x.0 (later x.0 x.1 ++ rest) fits.0)
      ∙ ap (with_first x.0) ((two x.0 fits.0).again x.1 rest fits.1)

  both_ok : (text rest : Lines) (x : A × B) → both text ≡ Ok (x, rest) → both_fit First Second x × (text ≡ both_lines lines later x ++ rest)
  both_ok text rest x e = go (read text) refl e
    where
      after : (p : A × Lines) → read text ≡ Ok p → (r : Reading B) → go_on p.0 p.1 ≡ r → with_first p.0 r ≡ Ok (x, rest) → both_fit First Second x × (text ≡ both_lines lines later x ++ rest)
      after p is (Err r) was f = absurd cc
      after p is (Ok q) was f =
          let pair : ((p.0, q.0), q.1) ≡ (x, rest) = ok_is ((p.0, q.0), q.1) (x, rest) f in
          let fit = one.fits text p.1 p.0 is in
          let form = two p.0 fit in
          let told : text ≡ both_lines lines later (p.0, q.0) ++ q.1
          = one.written text p.1 p.0 is ∙ (ap (λ (t : Lines). lines p.0 ++ t) (form.written p.1 q.1 q.0 was) ∙ sym (append_assoc (lines p.0) (later p.0 q.0) q.1)) in
          subst (λ (z : (A × B) × Lines). both_fit First Second z.0 × (text ≡ both_lines lines later z.0 ++ z.1)) pair ((fit, form.fits p.1 q.1 q.0 was), told)

      go : (r : Reading A) → read text ≡ r → read_second go_on r ≡ Ok (x, rest) → both_fit First Second x × (text ≡ both_lines lines later x ++ rest)
      go (Err r) is f = absurd cc
      go (Ok p) is f = after p is (go_on p.0 p.1) refl f

  both_stops : (text rest : Lines) → both text ≡ Err rest → StopsAt (both_fit First Second) (both_lines lines later) text rest
  both_stops text rest e = go (read text) refl e
    where
      early : (r : Lines) → read text ≡ Err r → r ≡ rest → StopsAt (both_fit First Second) (both_lines lines later) text rest
      early r is same =
          let st = one.stops text r is in
          let form = two st.one st.fits in
          record {
            front = st.front;
            split = st.split ∙ ap (λ (t : Lines). st.front ++ t) same;
            one = (st.one, form.some);
            fits = (st.fits, form.some_fits);
            more = st.more ++ later st.one form.some;
            begun = ap (λ (t : Lines). t ++ later st.one form.some) st.begun ∙ append_assoc st.front st.more (later st.one form.some);
            none = λ x line behind next fits at begins. elim (parts (lines x.0) (later x.0 x.1) st.front (line ∷ next) begins) [
              | inl l ↦
                  let item : l.item ≡ line = sym (cc l.rest) in
                  st.none x.0 line behind l.more fits.0 (same ∙ at) (l.is ∙ ap (λ (i : List ℕ). st.front ++ i ∷ l.more) item)
              | inr s ↦
                  let whole : text ≡ lines x.0 ++ (s.more ++ r) = st.split ∙ (ap (λ (t : Lines). t ++ r) s.is ∙ append_assoc (lines x.0) s.more r) in
                  absurd (cc (sym is ∙ (ap read whole ∙ one.again x.0 (s.more ++ r) fits.0)))
            ];
          }

      late : (p : A × Lines) → read text ≡ Ok p → (r : Reading B) → go_on p.0 p.1 ≡ r → with_first p.0 r ≡ Err rest → StopsAt (both_fit First Second) (both_lines lines later) text rest
      late p is (Ok q) was f = absurd cc
      late p is (Err r) was f =
          let same : r ≡ rest = err_is r rest f in
          let fit = one.fits text p.1 p.0 is in
          let form = two p.0 fit in
          let st = form.stops p.1 r was in
          record {
            front = lines p.0 ++ st.front;
            split = one.written text p.1 p.0 is ∙ (ap (λ (t : Lines). lines p.0 ++ t) (st.split ∙ ap (λ (t : Lines). st.front ++ t) same) ∙ sym (append_assoc (lines p.0) st.front rest));
            one = (p.0, st.one);
            fits = (fit, st.fits);
            more = st.more;
            begun = ap (λ (t : Lines). lines p.0 ++ t) st.begun ∙ sym (append_assoc (lines p.0) st.front st.more);
            none = λ x line behind next fits at begins.
                let mine = one.again x.0 (later x.0 x.1) fits.0 in
                let its = ap read (begins ∙ append_assoc (lines p.0) st.front (line ∷ next)) ∙ one.again p.0 (st.front ++ line ∷ next) fit in
                let pair = ok_is (x.0, later x.0 x.1) (p.0, st.front ++ line ∷ next) (sym mine ∙ its) in
                let first : x.0 ≡ p.0 = ap (λ (z : A × Lines). z.0) pair in
                let behind_is : later x.0 x.1 ≡ st.front ++ line ∷ next = ap (λ (z : A × Lines). z.1) pair in
                st.none x.1 line behind next (subst (λ (a : A). Second a x.1) first fits.1) (same ∙ at) (ap (λ (a : A). later a x.1) (sym first) ∙ behind_is);
          }

      go : (r : Reading A) → read text ≡ r → read_second go_on r ≡ Err rest → StopsAt (both_fit First Second) (both_lines lines later) text rest
      go (Err r) is f = early r is (err_is r rest f)
      go (Ok p) is f = late p is (go_on p.0 p.1) refl f

  pub two_forms : IsLineForm (both_fit First Second) (both_lines lines later) both
  two_forms = record {
    some = (one.some, (two one.some one.some_fits).some);
    some_fits = (one.some_fits, (two one.some one.some_fits).some_fits);
    again = both_again;
    fits = λ text rest x e. (both_ok text rest x e).0;
    written = λ text rest x e. (both_ok text rest x e).1;
    stops = both_stops;
  }
