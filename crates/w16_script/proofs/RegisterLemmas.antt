-- Lemmas on the names of registers.
use Rattle.w16_script.proofs.Common.{◌≡◌, ℕ, ◌+◌, ◌*◌, ◌/◌, ◌%◌, ◌<◌, ◌≤◌, ◌⊎◌, Bool, true, false, List, [], ◌∷◌, ◌++◌, get_or, length, append-nil, ◌≢◌, refl, sym, ap, ◌∙◌, arith, nat_tests, ◌==◌, decimal, decimal_digit, decimal_step, IsRegister, BeginsWith, IsForm, IsOfRegister, is_digit}

pub two_digits : (r : ℕ) → 10 ≤ r → r < 100 → decimal r ≡ (48 + r / 10) ∷ (48 + r % 10) ∷ []
two_digits r some small = decimal_step r some (omega arith) ∙ ap (λ l. l ++ ((48 + r % 10) ∷ [])) (decimal_digit (r / 10) (omega arith))

-- The text, byte by byte.

pub begins_r : {text name : _} {first : ℕ} → text ≡ first ∷ name → first ≡ 114 → text ≡ 114 ∷ name
begins_r e is = cc

pub one_byte : {text name rest : _} {first byte : ℕ} → text ≡ first ∷ name → first ≡ 114 → name ≡ byte ∷ rest → text ≡ 114 ∷ byte ∷ rest
one_byte e is digit = cc

pub two_bytes : {text name rest more : _} {first byte next : ℕ} → text ≡ first ∷ name → first ≡ 114 → name ≡ byte ∷ rest → rest ≡ next ∷ more → text ≡ 114 ∷ byte ∷ next ∷ more
two_bytes e is digit digit_too = cc

-- a name of one digit
pub BeginsWith-one : (text rest : List ℕ) (first : ℕ) → first < 10 → text ≡ 114 ∷ (48 + first) ∷ rest → is_digit 10 (get_or rest 0 0) ≡ false → BeginsWith text first rest
BeginsWith-one text rest first small e ends = record { name = 114 ∷ (48 + first) ∷ []; named = (omega arith, rw (decimal_digit first small) refl); whole = e; ends = ends }

-- and of two
pub BeginsWith-two : (text rest : List ℕ) (first second : ℕ) → first < 10 → second < 10 → first ≢ 0 → text ≡ 114 ∷ (48 + first) ∷ (48 + second) ∷ rest
    → is_digit 10 (get_or rest 0 0) ≡ false → BeginsWith text (first * 10 + second) rest
BeginsWith-two text rest first second small small_too some e ends =
    let r = first * 10 + second in
    let tens : r / 10 ≡ first = omega arith in
    let ones : r % 10 ≡ second = omega arith in
    let digits : decimal r ≡ (48 + first) ∷ (48 + second) ∷ [] = two_digits r (omega arith) (omega arith) ∙ rw (tens, ones) refl in
    record { name = 114 ∷ (48 + first) ∷ (48 + second) ∷ []; named = (omega arith, rw digits refl); whole = e; ends = ends }

-- a text that begins with a register has one of the two forms
pub BeginsWith-form : {text rest : _} {r : ℕ} → BeginsWith text r rest → ((r < 10) × (text ≡ 114 ∷ (48 + r) ∷ rest)) ⊎ ((10 ≤ r) × (r < 100) × (text ≡ 114 ∷ (48 + r / 10) ∷ (48 + r % 10) ∷ rest))
BeginsWith-form h = grind (arith, decimal_digit, two_digits)

pub clash : (b : Bool) → b ≡ true → b ≡ false → ⊥
clash b p q = cc

-- a name without digits is none
pub no_digits : {text rest r : _} (name : List ℕ) → text ≡ 114 ∷ name → is_digit 10 (get_or name 0 0) ≡ false → BeginsWith text r rest → ⊥
no_digits name e none h = let f = BeginsWith-form h in grind (arith, nat_tests)

pub no_zero : {text rest r : _} (more : List ℕ) (first second : ℕ) → text ≡ 114 ∷ (48 + first) ∷ (48 + second) ∷ more → second < 10 → first ≡ 0 → BeginsWith text r rest → ⊥
no_zero more first second e small none h = let f = BeginsWith-form h in grind (arith, nat_tests)

pub no_third : {text rest r : _} (behind more : List ℕ) (first second third : ℕ) → text ≡ 114 ∷ (48 + first) ∷ (48 + second) ∷ behind → second < 10
    → behind ≡ (48 + third) ∷ more → third < 10 → BeginsWith text r rest → ⊥
no_third behind more first second third e small digit small_too h = let f = BeginsWith-form h in grind (arith, nat_tests)

-- a text begins with one register at most
pub BeginsWith-same : {text s t a b : _} → BeginsWith text a s → BeginsWith text b t → (a ≡ b) × (s ≡ t)
BeginsWith-same p q =
    let f = BeginsWith-form p in
    let g = BeginsWith-form q in
    grind (arith, nat_tests)

-- a register's name, and nothing after it

pub BeginsWith-name : (word r : _) → IsRegister word r → BeginsWith word r []
BeginsWith-name word r h = record { name = word; named = h; whole = sym (append-nil word); ends = refl }

pub not_named : {word rest a : _} (b : ℕ) (test : Bool) → test ≡ (length rest == 0) → test ≡ false → BeginsWith word a rest → IsRegister word b → ⊥
not_named b test is some h named = let same = BeginsWith-same h (BeginsWith-name _ b named) in grind (arith, nat_tests)

-- Forms after a name.

form_ends : (value suffix n : _) → IsForm value suffix n → is_digit 10 (get_or suffix 0 0) ≡ false
form_ends value suffix n h = grind (arith, nat_tests)

pub BeginsWith-from : {registers text n : _} (h : IsOfRegister registers text n) → BeginsWith text h.register h.suffix
BeginsWith-from {n} h = record { name = h.name; named = h.named; whole = h.whole; ends = form_ends _ h.suffix n h.form }

pub no_form : {word rest r n registers : _} (value : ℕ) → BeginsWith word r rest → value ≡ get_or registers r 0 → (IsForm value rest n → ⊥) → IsOfRegister registers word n → ⊥
no_form value h is none number = let same = BeginsWith-same h (BeginsWith-from number) in grind arith
