-- Names of chromosomes: whether two are one.
use Rattle.bt_lines.proofs.Std.{◌≡◌, ℕ, ◌⊎◌, ◌+◌, ◌-◌, ◌<◌, ◌≤◌, ◌++◌, inl, inr, List, length, take, drop, get_or, refl, sym, ap, ◌∙◌, arith, true, false, eqb, bytes_eq, length-take, length-drop, cases_Bool, eqb-true, false_from_ne_true, drop-drop, get_or-drop, get_or-take, get_or_past, take-append-drop, le_bytes_4, bytes_eq-Decides, from_le_bytes, w32, zero, suc, ◌*◌, ◌/◌, ◌%◌, ◌^◌, [], ◌∷◌, append_assoc, add-mul-mod_self_right, eq_of_mul-eq-mul_left, pow-succ', one_shl, pow-add, length-append, take-take, take-length, w64, Some, subst, drop-take, length-take-le, get_or-append_seam, is_ascii_digit, list_all, digits_value}
use Rattle.bt_bed.specs.inside.FirstColumns.{BeginsWithName, IsKey, AreBounds, BeginsWith, HasColumns, Leads}
use Rattle.bt_bed.specs.declared.parse.packed_name.PackedName.{PackedName}
use Rattle.bt_lines.proofs.lemmas.numbers.NumberLemmas.{digits_denoting, digits_more, value_more, value_short}
use Rattle.bt_lines.specs.model.Lines.{value_of}
use Rattle.bt_bed.specs.declared.record.raw_record.ParsedNumber.{ParsedNumber}
use Rattle.bt_bed.proofs.lemmas.read.ColumnLemmas.{begins_below, front_is_name, leads_by, name_in_front}

pub same_name : (a b : List ℕ) → bytes_eq a b ≡ true → a ≡ b
same_name a b t = (bytes_eq-Decides a b).0 t

pub name_eq : (a b : List ℕ) → a ≡ b → bytes_eq a b ≡ true
name_eq a b e = (bytes_eq-Decides a b).1 e

pub name_ne : (a b : List ℕ) → (a ≡ b → ⊥) → bytes_eq a b ≡ false
name_ne a b n = false_from_ne_true (bytes_eq a b) (λ t. n (same_name a b t))

pub other_name : (a b : List ℕ) → bytes_eq a b ≡ false → a ≡ b → ⊥
other_name a b f e = let t = name_eq a b e in absurd (cc)

pub name_ne-sym : (a b : List ℕ) → bytes_eq a b ≡ false → bytes_eq b a ≡ false
name_ne-sym a b f = name_ne b a (λ e. other_name a b f (sym e))

-- names that are one, or not
pub cases_name : (a b : List ℕ) → (a ≡ b) ⊎ (bytes_eq a b ≡ false)
cases_name a b = elim (cases_Bool (bytes_eq a b)) [ inl t ↦ inl (same_name a b t) | inr f ↦ inr f ]

-- whether names are one is so either way round
pub name_eq-sym : (a b : List ℕ) → bytes_eq a b ≡ bytes_eq b a
name_eq-sym a b = elim (cases_name a b) [ inl e ↦ name_eq a b e ∙ sym (name_eq b a (sym e)) | inr f ↦ f ∙ sym (name_ne-sym a b f) ]

-- four bytes that are one number are the same
words_same : (x y : List ℕ) → length x ≡ 4 → length y ≡ 4 → ((i : ℕ) → get_or x i 0 < 256)
    → ((i : ℕ) → get_or y i 0 < 256)
    → from_le_bytes w32 x ≡ from_le_bytes w32 y → x ≡ y
words_same x y m n xs ys e = grind (arith, (le_bytes_4 x (from_le_bytes w32 x) m xs refl), (le_bytes_4 y (from_le_bytes w32 x) n ys e))

-- that many bytes are the same if they are one number
abbrev Tells : (List ℕ → ℕ) → ℕ → Type 0
Tells number size = (x y : List ℕ) → length x ≡ size → length y ≡ size → ((i : ℕ) → get_or x i 0 < 256)
    → ((i : ℕ) → get_or y i 0 < 256) → number x ≡ number y → x ≡ y

-- names of at most twice that many bytes whose first ones are the same, as are the last ones
ends_same : (size : ℕ) (a b : List ℕ) → length a ≡ length b → size ≤ length a → length a ≤ 2 * size → take size a ≡ take size b
    → drop (length a - size) a ≡ drop (length b - size) b → a ≡ b
ends_same size a b n some short first last =
    let back : (xs : List ℕ) → length xs ≡ length a
    → drop (2 * size - length a) (drop (length xs - size) xs) ≡ drop size xs
    = λ xs m. let whole : (length xs - size) + (2 * size - length a) ≡ size = omega arith in
    drop-drop (2 * size - length a) (length xs - size) xs ∙ ap (λ (k : ℕ). drop k xs) whole in
    let behind : drop size a ≡ drop size b = sym (back a refl) ∙ ap (λ (xs : List ℕ). drop (2 * size - length a) xs) last ∙ back b (sym n) in
    sym (take-append-drop size a) ∙ ap (λ (xs : List ℕ). xs ++ drop size a) first ∙ ap (λ (xs : List ℕ). take size b ++ xs) behind ∙ take-append-drop size b

byte_in_front : (xs : List ℕ) (n : ℕ) → n ≤ length xs → ((i : ℕ) → get_or xs i 0 < 256) → (i : ℕ)
    → get_or (take n xs) i 0 < 256
byte_in_front xs n room all i = grind (arith, get_or-take, get_or_past, length-take)

byte_behind : (xs : List ℕ) (n : ℕ) → ((i : ℕ) → get_or xs i 0 < 256) → (i : ℕ)
    → get_or (drop n xs) i 0 < 256
byte_behind xs n all i = rw (get_or-drop n xs i 0) (all (n + i))

-- the first and the last bytes, each as one number, tell whether two names of at most twice that many are one
numbers_tell : (number : List ℕ → ℕ) (size : ℕ) → Tells number size → (a b : List ℕ) {first last other_first other_last : ℕ} → length a ≡ length b
    → size ≤ length a → length a ≤ 2 * size
    → ((i : ℕ) → get_or a i 0 < 256) → ((i : ℕ) → get_or b i 0 < 256)
    → first ≡ number (take size a) → last ≡ number (drop (length a - size) a)
    → other_first ≡ number (take size b)
    → other_last ≡ number (drop (length b - size) b)
    → first ≡ other_first → eqb last other_last ≡ bytes_eq a b
numbers_tell number size tells a b {last} {other_last} n some short fits other_fits f l g m e =
    let front : take size a ≡ take size b = tells (take size a) (take size b)
    (omega (arith, length-take size a)) (omega (arith, length-take size b))
    (byte_in_front a size some fits) (byte_in_front b size (omega arith) other_fits) (sym f ∙ e ∙ g) in
    elim (cases_Bool (eqb last other_last)) [
      | inl same ↦
          let back : drop (length a - size) a ≡ drop (length b - size) b =
          tells (drop (length a - size) a) (drop (length b - size) b)
          (omega (arith, length-drop (length a - size) a))
          (omega (arith, length-drop (length b - size) b))
          (byte_behind a (length a - size) fits) (byte_behind b (length b - size) other_fits)
          (sym l ∙ eqb-true last other_last same ∙ m) in
          same ∙ sym (name_eq a b (ends_same size a b n some short front back))
      | inr other ↦ grind (arith, name_ne)
    ]

-- four bytes at each end, of names of four to eight
pub ends_tell : (a b : List ℕ) {first last other_first other_last : ℕ} → length a ≡ length b
    → 4 ≤ length a → length a ≤ 8
    → ((i : ℕ) → get_or a i 0 < 256) → ((i : ℕ) → get_or b i 0 < 256)
    → first ≡ from_le_bytes w32 (take 4 a) → last ≡ from_le_bytes w32 (drop (length a - 4) a)
    → other_first ≡ from_le_bytes w32 (take 4 b)
    → other_last ≡ from_le_bytes w32 (drop (length b - 4) b)
    → first ≡ other_first → eqb last other_last ≡ bytes_eq a b
ends_tell = numbers_tell (from_le_bytes w32) 4 words_same

-- Lemmas on the name of a chromosome and the tab after it as one number.

-- bytes as one number, of which the first is the lowest
abbrev worth : List ℕ → ℕ
worth [] = 0
worth (x ∷ xs) = x + 256 * worth xs

worth_is : (bytes : List ℕ) → length bytes ≤ 8 → from_le_bytes w64 bytes ≡ worth bytes
worth_is [] n = refl
worth_is (a ∷ []) n = omega arith
worth_is (a ∷ b ∷ []) n = omega arith
worth_is (a ∷ b ∷ c ∷ []) n = omega arith
worth_is (a ∷ b ∷ c ∷ d ∷ []) n = omega arith
worth_is (a ∷ b ∷ c ∷ d ∷ e ∷ []) n = omega arith
worth_is (a ∷ b ∷ c ∷ d ∷ e ∷ f ∷ []) n = omega arith
worth_is (a ∷ b ∷ c ∷ d ∷ e ∷ f ∷ g ∷ []) n = omega arith
worth_is (a ∷ b ∷ c ∷ d ∷ e ∷ f ∷ g ∷ h ∷ []) n = omega arith
worth_is (a ∷ b ∷ c ∷ d ∷ e ∷ f ∷ g ∷ h ∷ i ∷ rest) n = absurd (omega arith)

-- what the bytes after an offset add to the number
worth_parts : (front rest : List ℕ) → worth (front ++ rest) ≡ worth front + worth rest * 256 ^ length front
worth_parts [] rest = omega arith
worth_parts (x ∷ front) rest =
    let before = worth_parts front rest in
    rw (pow-succ' 256 (length front)) (omega arith)

low_same : (x y a b : ℕ) → x < 256 → y < 256 → x + 256 * a ≡ y + 256 * b → (x ≡ y) × (a ≡ b)
low_same x y a b small other e = (omega arith, omega arith)

raise_one : (x a p k : ℕ) → x + 256 * a + p * 256 ^ suc k ≡ x + 256 * (a + p * 256 ^ k)
raise_one x a p k = rw (pow-succ' 256 k) (omega arith)

-- what is moved past the upper end is lost
lost_rest : (a b f k n : ℕ) → f * k ≡ n → ((a + b * k) * f) % n ≡ (a * f) % n
lost_rest a b f k n is = grind (arith, (add-mul-mod_self_right (a * f) b n))

-- bytes whose numbers differ by a multiple of 256 ^ k have the same first k bytes
front_same : (k : ℕ) (a b : List ℕ) (p q : ℕ) → ((i : ℕ) → get_or a i 0 < 256) → ((i : ℕ) → get_or b i 0 < 256)
    → k ≤ length a → k ≤ length b → worth a + p * 256 ^ k ≡ worth b + q * 256 ^ k → take k a ≡ take k b
front_same zero a b p q fit other m n e = refl
front_same (suc k) [] b p q fit other m n e = absurd (omega arith)
front_same (suc k) (x ∷ a) [] p q fit other m n e = absurd (omega arith)
front_same (suc k) (x ∷ a) (y ∷ b) p q fit other m n e =
    let parts = low_same x y (worth a + p * 256 ^ k) (worth b + q * 256 ^ k) (fit 0) (other 0)
    (sym (raise_one x (worth a) p k) ∙ e ∙ raise_one y (worth b) q k) in
    grind (arith, (front_same k a b p q (λ i. fit (suc i)) (λ i. other (suc i)) (omega arith) (omega arith) parts.1))

-- eight bytes that are one number are the same
eights_same : (x y : List ℕ) → length x ≡ 8 → length y ≡ 8 → ((i : ℕ) → get_or x i 0 < 256)
    → ((i : ℕ) → get_or y i 0 < 256)
    → from_le_bytes w64 x ≡ from_le_bytes w64 y → x ≡ y
eights_same x y m n xs ys e =
    let one : worth x ≡ worth y = sym (worth_is x (omega arith)) ∙ e ∙ worth_is y (omega arith) in
    let same : take 8 x ≡ take 8 y = front_same 8 x y 0 0 xs ys (omega arith) (omega arith) (omega (arith, one)) in
    sym (subst (λ (k : ℕ). take k x ≡ x) m (take-length x)) ∙ same ∙ subst (λ (k : ℕ). take k y ≡ y) n (take-length y)

-- eight bytes at each end, of names of eight to sixteen
pub long_ends_tell : (a b : List ℕ) {first last other_first other_last : ℕ} → length a ≡ length b
    → 8 ≤ length a → length a ≤ 16
    → ((i : ℕ) → get_or a i 0 < 256) → ((i : ℕ) → get_or b i 0 < 256)
    → first ≡ from_le_bytes w64 (take 8 a) → last ≡ from_le_bytes w64 (drop (length a - 8) a)
    → other_first ≡ from_le_bytes w64 (take 8 b)
    → other_last ≡ from_le_bytes w64 (drop (length b - 8) b)
    → first ≡ other_first → eqb last other_last ≡ bytes_eq a b
long_ends_tell = numbers_tell (from_le_bytes w64) 8 eights_same

-- what a text has from an offset on, to its end
to_the_end : (n : ℕ) (xs : List ℕ) → take (length xs - n) (drop n xs) ≡ drop n xs
to_the_end n xs = ap (λ (k : ℕ). take k (drop n xs)) (sym (length-drop n xs)) ∙ take-length (drop n xs)

-- sixteen bytes at each end, of names of sixteen to thirty-two: the last ones are the same
pub halves_tell : (a b : List ℕ) → length a ≡ length b → 16 ≤ length a → length a ≤ 32
    → bytes_eq (take (length a - (length a - 16)) (drop (length a - 16) a)) (take (length b - (length a - 16)) (drop (length a - 16) b)) ≡ true
    → bytes_eq (take 16 a) (take 16 b) ≡ bytes_eq a b
halves_tell a b n some short last =
    let back : drop (length a - 16) a ≡ drop (length b - 16) b =
    sym (to_the_end (length a - 16) a) ∙ same_name _ _ last ∙ to_the_end (length a - 16) b ∙ ap (λ (k : ℕ). drop (k - 16) b) n in
    elim (cases_name (take 16 a) (take 16 b)) [
      | inl same ↦ name_eq _ _ same ∙ sym (name_eq a b (ends_same 16 a b n some short same back))
      | inr other ↦ other ∙ sym (name_ne a b (λ e. other_name _ _ other (ap (take 16) e)))
    ]

-- what is lost of a product is a multiple of the other factor
lost_parts : (a b f k n : ℕ) → f * k ≡ n → 0 < n → (a * f) % n ≡ (b * f) % n → a + (b * f / n) * k ≡ b + (a * f / n) * k
lost_parts a b f k n is some same =
    let product : f * (a + (b * f / n) * k) ≡ f * (b + (a * f / n) * k) = omega (arith, ap (λ (m : ℕ). (b * f / n) * m) is, ap (λ (m : ℕ). (a * f / n) * m) is) in
    eq_of_mul-eq-mul_left f (grind arith) (a + (b * f / n) * k) (b + (a * f / n) * k) product

bytes_and_tab : (name : List ℕ) → ((i : ℕ) → get_or name i 0 < 256) → (i : ℕ) → get_or (name ++ 9 ∷ []) i 0 < 256
bytes_and_tab [] bytes zero = omega arith
bytes_and_tab [] bytes (suc i) = omega arith
bytes_and_tab (x ∷ name) bytes zero = bytes 0
bytes_and_tab (x ∷ name) bytes (suc i) = bytes_and_tab name (λ k. bytes (suc k)) i

-- bytes of which the first become the key's number begin with the name and a tab
pub key_tells : (name bytes : List ℕ) (key : PackedName) → IsKey name key → length bytes ≡ 8 → ((i : ℕ) → get_or bytes i 0 < 256)
    → (from_le_bytes w64 bytes * key.factor) % 2 ^ 64 ≡ key.word → take (length name + 1) bytes ≡ name ++ 9 ∷ []
key_tells name bytes key is eight fit same =
    let size : length (name ++ 9 ∷ []) ≡ length name + 1 = length-append name (9 ∷ []) in
    let words : (worth bytes * key.factor) % 2 ^ 64 ≡ (worth (name ++ 9 ∷ []) * key.factor) % 2 ^ 64 =
    ap (λ (w : ℕ). (w * key.factor) % 2 ^ 64) (sym (worth_is bytes (omega arith))) ∙ same ∙ is.word
    ∙ ap (λ (w : ℕ). (w * key.factor) % 2 ^ 64) (worth_is (name ++ 9 ∷ []) (omega arith)) in
    let parts = lost_parts (worth bytes) (worth (name ++ 9 ∷ [])) key.factor (256 ^ (length name + 1)) (2 ^ 64) is.factor (omega arith) words in
    grind (arith, (front_same (length name + 1) bytes (name ++ 9 ∷ []) _ _ fit (bytes_and_tab name is.bytes) (omega arith) (omega arith) parts), (take-length (name ++ 9 ∷ [])))

-- eight bytes that begin with the name and a tab become the key's number
pub key_made : (name bytes : List ℕ) (factor : ℕ) → length name ≤ 7 → factor * 256 ^ (length name + 1) ≡ 2 ^ 64 → length bytes ≡ 8 → take (length name + 1) bytes ≡ name ++ 9 ∷ []
    → (from_le_bytes w64 bytes * factor) % 2 ^ 64 ≡ (from_le_bytes w64 (name ++ 9 ∷ []) * factor) % 2 ^ 64
key_made name bytes factor short is eight front = grind (arith, (length-append name (9 ∷ [])), (take-append-drop (length name + 1) bytes), worth_parts, worth_is, lost_rest)

-- a power of 256 as one of 2
power_is : (m : ℕ) → 256 ^ m ≡ 2 ^ (8 * m)
power_is zero = refl
power_is (suc m) = grind (arith, (power_is m), (pow-add 2 8 (8 * m)))

-- what moves a name of this length and a tab to the upper bytes
pub factor_is : (n : ℕ) → n ≤ 7 → (1 * 2 ^ (8 * (7 - n))) % 2 ^ 64 * 256 ^ (n + 1) ≡ 2 ^ 64
factor_is n short = grind (arith, (power_is (n + 1)), (one_shl (8 * (7 - n)) 64 (omega arith)), (pow-add 2 (8 * (7 - n)) (8 * (n + 1))))

-- bytes of which the first are a name and a tab begin with these
pub front_begins : (text bytes name : List ℕ) → bytes ≡ take 8 text → length name ≤ 7 → take (length name + 1) bytes ≡ name ++ 9 ∷ [] → BeginsWithName text name
front_begins text bytes name are short front = grind (arith, (take-take (length name + 1) 8 text (omega arith)), (take-append-drop (length name + 1) text), (append_assoc name (9 ∷ []) (drop (length name + 1) text)))

-- Lemmas on the first columns of a line that are scanned in the buffer.

-- eight digits that denote a number
pub eight_begin : (text : List ℕ) (value : ℕ) → 8 ≤ length text → value_of (take 8 text) ≡ Some value → BeginsWith text (record { value = value; end = 8 })
eight_begin text value room denotes = grind (arith, (digits_denoting (take 8 text) value (sym denotes)))

-- the digits that eight bytes begin with
pub few_begin : (text bytes : List ℕ) (lead : ParsedNumber) → bytes ≡ take 8 text → 8 ≤ length text → BeginsWith bytes lead → BeginsWith text lead
few_begin text bytes lead are room begins =
    let size : length bytes ≡ 8 = ap length are ∙ length-take-le 8 text room in
    grind (arith, (take-take lead.end 8 text (omega arith)))

-- one digit more
pub one_more : (text : List ℕ) (lead : ParsedNumber) → BeginsWith text lead → lead.end < 12 → lead.end < length text → is_ascii_digit (get_or text lead.end 0) ≡ true
    → BeginsWith text (record { value = lead.value * 10 + (get_or text lead.end 0 - 48); end = lead.end + 1 })
one_more text lead begins short inside digit = grind (arith, digits_more, value_more)

-- the number of eight digits is small
pub eight_small : (text : List ℕ) (value : ℕ) → 8 ≤ length text → value_of (take 8 text) ≡ Some value → value ≤ 999999999999
eight_small text value room denotes =
    grind (arith, (value_short 8 value (begins_below text (record { value = value; end = 8 }) (eight_begin text value room denotes)) (omega arith)))

module _ (bytes name : List ℕ) (start stop : ParsedNumber) (has : HasColumns bytes name start stop) where
  name_tab : get_or bytes (length name) 0 ≡ 9
  name_tab = ap (λ l. get_or l (length name) 0) has.named ∙ get_or-append_seam name 9 (drop (length name + 1) bytes) 0

  -- the text of a line that begins there
  module _ (text : List ℕ) (past : length name + start.end + stop.end + 2 ≤ length text) (front : take (length text) bytes ≡ text)
      (last_tab : length name + start.end + stop.end + 2 < length text → get_or text (length name + start.end + stop.end + 2) 0 ≡ 9) where
    -- a prefix of it
    front_is : (n : ℕ) → n ≤ length name + start.end + stop.end + 2 → take n text ≡ take n bytes
    front_is n small = ap (take n) (sym front) ∙ take-take n (length text) bytes (omega arith)

    -- a number in it
    number_in : (at : ℕ) (lead : ParsedNumber) → BeginsWith (drop at bytes) lead → at + lead.end ≤ length name + start.end + stop.end + 2 → take lead.end (drop at text) ≡ take lead.end (drop at bytes)
    number_in at lead begins small = grind (arith, (drop-take at lead.end text), (front_is (at + lead.end) small), (drop-take at lead.end bytes))

    pub line_named : BeginsWithName text name
    line_named = grind (arith, name_in_front, get_or-take, name_tab, bytes_eq-Decides, front_is, front_is_name)

    leads_at : (at : ℕ) (lead : ParsedNumber) → BeginsWith (drop at bytes) lead → 0 < lead.end → at + lead.end ≤ length name + start.end + stop.end + 2 → (at + lead.end < length text → get_or text (at + lead.end) 0 ≡ 9)
        → Leads (drop at text) lead
    leads_at at lead begins some small tab =
        let same = number_in at lead begins small in
        let size = length-drop at text in
        leads_by (drop at text) lead.value lead.end some (omega arith) (λ inside. get_or-drop at text lead.end 0 ∙ tab (omega arith))
        (begins.value ∙ ap (digits_value 10) (sym same)) (ap (list_all is_ascii_digit) same ∙ begins.digits)
        (value_short lead.end lead.value (begins_below (drop at bytes) lead begins) begins.short)

    pub line_bounds : AreBounds text (length name) start stop
    line_bounds =
        let tab : get_or text (length name + start.end + 1) 0 ≡ 9 = (grind (arith, get_or-take)) ∙ has.tab in
        let second_end : length name + start.end + 2 + stop.end ≡ length name + start.end + stop.end + 2 = omega arith in
        record {
          first = leads_at (length name + 1) start has.first has.some_first (omega arith) (λ inside. ap (λ (i : ℕ). get_or text i 0) (omega arith) ∙ tab);
          inside = omega (arith, length-drop (length name + 1) text);
          second = subst (λ (l : List ℕ). Leads l stop) (ap (λ (i : ℕ). drop i text) (sym (omega arith)) ∙ sym (drop-drop (start.end + 1) (length name + 1) text))
              (leads_at (length name + start.end + 2) stop has.second has.some_second (omega arith) (λ inside. ap (λ (i : ℕ). get_or text i 0) second_end ∙ last_tab (omega arith)));
          below = has.below;
        }
