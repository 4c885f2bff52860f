-- What a watch does with bytes, one after another.
use Rattle.std.specs.Prelude.{◌≡◌, ℕ, suc, ◌++◌, ◌<◌, ◌≤◌, ◌==◌, ◌&&◌, ◌||◌, Bool, false, true, List, [], ◌∷◌, codes, get_or, if◌then◌else◌, nat_lt, not, Option, Some, None, is_some}
use Rattle.bt_front.specs.calls.Bytes.{feeds_in}
use Rattle.bt_front.specs.declared.survey.byte_watch.ByteWatch.{ByteWatch}
use Rattle.bt_front.specs.declared.survey.byte_watch.OddBytes.{OddBytes}
use Rattle.bt_front.specs.declared.survey.oddity.Oddity.{Oddity}
use Rattle.bt_front.specs.declared.survey.oddity.Oddity.TheVariants.{Blank, DoubleReturn, Nul, Long, Vcf, ByteOrderMark, Gzip}
use Rattle.bt_front.specs.model.Odd.{has_special}

-- how many bytes of the line are those of the first line of VCF, after one byte more
abbrev pub next_vcf : ByteWatch → ℕ → ℕ
next_vcf watch byte =
    if (watch.vcf == watch.line) && (nat_lt watch.line 16 && (byte == get_or (codes "##fileformat=VCF") watch.line 0))
    then suc watch.line else 0

-- whether the line is a CR so far
abbrev pub is_only_return : ByteWatch → Bool
is_only_return watch = (watch.line == 1) && (watch.last == 13)

-- whether a line that ends here is blank
abbrev pub is_blank_end : ByteWatch → Bool
is_blank_end watch = (watch.line == 0) || is_only_return watch

-- whether bedtools takes the text for a gzip file, by its first byte
abbrev pub is_gzip_at : ByteWatch → ℕ → Bool
is_gzip_at watch byte = watch.is_first && ((watch.line == 0) && (byte == 31))

-- whether it begins with a byte order mark
abbrev pub is_mark_at : ByteWatch → ℕ → Bool
is_mark_at watch byte =
    watch.is_first && ((watch.line == 2) && ((watch.first == 239) && ((watch.last == 187) && (byte == 191))))

-- what is odd in a line that goes on with this byte
abbrev pub odd_in_line : ByteWatch → ℕ → Option Oddity
odd_in_line watch byte =
    if byte == 0 then Some Nul
    else (if (byte == 13) && (watch.last == 13) then Some DoubleReturn
    else (if nat_lt 1014 watch.line then Some Long
    else (if next_vcf watch byte == 16 then Some Vcf
    else (if is_gzip_at watch byte then Some Gzip
    else (if is_mark_at watch byte then Some ByteOrderMark else None)))))

-- what is odd with this byte
abbrev pub oddity_at : ByteWatch → ℕ → Option Oddity
oddity_at watch byte =
    if byte == 10 then (if is_blank_end watch then Some Blank else None) else odd_in_line watch byte

-- the watch after a line feed
abbrev pub fed : ByteWatch
fed = record { last = 10; line = 0; vcf = 0; is_first = false; first = 0 }

-- the watch after a byte of the line
abbrev pub lengthened : ByteWatch → ℕ → ByteWatch
lengthened watch byte = record {
  last = byte;
  line = if nat_lt 1015 watch.line then watch.line else suc watch.line;
  vcf = next_vcf watch byte;
  is_first = watch.is_first;
  first = if watch.line == 0 then byte else watch.first;
}

-- the watch after this byte
abbrev pub stepped : ByteWatch → ℕ → ByteWatch
stepped watch byte = if byte == 10 then fed else lengthened watch byte

-- the watch after these bytes
abbrev pub after : ByteWatch → List ℕ → ByteWatch
after watch [] = watch
after watch (byte ∷ bytes) = after (stepped watch byte) bytes

-- whether nothing is odd with these bytes
abbrev pub are_plain : ByteWatch → List ℕ → Bool
are_plain watch [] = true
are_plain watch (byte ∷ bytes) = not (is_some (oddity_at watch byte)) && are_plain (stepped watch byte) bytes

-- the first byte with which something is odd
pub record IsFound (watch : ByteWatch) (block : List ℕ) (found : OddBytes) : Type 0 where
  pub front : List ℕ
  pub byte : ℕ
  pub rest : List ℕ
  pub is : block ≡ front ++ byte ∷ rest
  pub plain : are_plain watch front ≡ true
  pub odd : oddity_at (after watch front) byte ≡ Some found.oddity
  pub feeds : found.feeds ≡ feeds_in front

-- Bytes in which nothing can be odd but the length of a line.

-- whether a text whose first byte this is may begin as a gzip file, or with a byte order mark
abbrev pub may_begin : ℕ → Bool
may_begin byte = (byte == 31) || (byte == 239)

-- whether something may be odd with this byte but the length of the line, or is begun that may become odd
abbrev pub may_be_odd : ByteWatch → ℕ → Bool
may_be_odd watch byte =
    ((byte == 10) && is_blank_end watch)
    || (watch.is_first && may_begin (if watch.line == 0 then byte else watch.first))
    || nat_lt 0 watch.vcf || nat_lt 1015 watch.line

-- the same of the first of some bytes
abbrev pub may_be_odd_first : ByteWatch → List ℕ → Bool
may_be_odd_first watch [] = false
may_be_odd_first watch (byte ∷ bytes) = may_be_odd watch byte

-- nothing may be odd with these bytes but the length of a line
pub record AreQuiet (watch : ByteWatch) (bytes : List ℕ) : Type 0 where
  pub special : has_special bytes ≡ false
  pub first : may_be_odd_first watch bytes ≡ false

-- the watch passed some bytes, the last of which may make a line too long
pub record IsPassed (watch : ByteWatch) (bytes : List ℕ) (new : ByteWatch) : Type 0 where
  pub is : new ≡ after watch bytes
  pub plain : new.line ≤ 1015 → are_plain watch bytes ≡ true
  pub long : 1015 < new.line → (front : List ℕ) × (byte : ℕ) × (bytes ≡ front ++ byte ∷ [])
      × (are_plain watch front ≡ true) × (oddity_at (after watch front) byte ≡ Some Long)
