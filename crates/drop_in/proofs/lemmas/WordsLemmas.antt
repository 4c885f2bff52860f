-- What words ask for has the command of their plan; and where an option's value is among them.
use Rattle.std.specs.Prelude.{String, codes, option_map, slice_get, string_bytes}
use Rattle.std.specs.declared.alloc.Global.{Global}
use Rattle.bt_lines.proofs.Std.{◌≡◌, ◌∙◌, ◌+◌, ◌-◌, ◌<◌, ℕ, Bool, List, None, Ok, Option, Result, Some, ap, arith, bytes_eq, get_or, length, refl, slice_get-map, slice_get_read, subst, sym, true}
use Rattle.bt_bed.proofs.lemmas.parse.NameLemmas.{same_name}
use Rattle.bt_front.specs.declared.words.Asked.{Asked}
use Rattle.bt_front.specs.declared.words.word_reason.WordReason.{WordReason}
use Rattle.bt_front.specs.model.Words.{asked_of, command_reason, first_of, items_in, or_reason, word_rows}
use Rattle.bt_tool.specs.calls.Plan.{words_seen}
use Rattle.bt_tool.specs.declared.planning.plan_type.Command.{Command}
use Rattle.bt_tool.specs.model.Options.{PlanSeen, is_given}
use Rattle.bt_tool.specs.model.Table.{Word}

or_ok : (reason : Option WordReason) (rest : Result Asked WordReason) (asked : Asked) → or_reason reason rest ≡ Ok asked → rest ≡ Ok asked
or_ok None rest asked is = is
or_ok (Some reason) rest asked is = cc

abbrev ok_asked : Asked → Result Asked WordReason
ok_asked asked = Ok asked

same_asked : (one other : Asked) → ok_asked one ≡ ok_asked other → one ≡ other
same_asked one other is = cc

command_is : (command : Command) (is_sorted : Bool) (asked : Asked)
    → ok_asked (record { command = command; is_sorted = is_sorted }) ≡ ok_asked asked
    → asked ≡ record { command = command; is_sorted = asked.is_sorted }
command_is command is_sorted asked is =
    let with_command : Bool → Asked = λ sorted. record { command = command; is_sorted = sorted } in
    let same : with_command is_sorted ≡ asked = same_asked (with_command is_sorted) asked is in
    sym same ∙ ap with_command (ap (λ (a : Asked). a.is_sorted) same)

pub asked_has_command : (words : List Word) (plan : PlanSeen) (asked : Asked) → asked_of words plan ≡ ok_asked asked
    → asked_of words plan ≡ ok_asked (record { command = plan.command; is_sorted = asked.is_sorted })
asked_has_command words plan asked is =
    let sorted = is_given (items_in words) (codes "-sorted") in
    let inner : Result Asked WordReason = Ok (record { command = plan.command; is_sorted = sorted }) in
    let e : inner ≡ ok_asked asked =
    or_ok (command_reason (items_in words) plan) inner asked
    (or_ok (first_of (word_rows words)) (or_reason (command_reason (items_in words) plan) inner) asked is) in
    is ∙ ap ok_asked (command_is plan.command sorted asked e)

-- the word before a value is its option
pub word_before : (words : List (String Global)) (at : ℕ) (word : String Global) → at < length words → word ≡ get_or words at word
    → (shown option : Word) → shown ≡ string_bytes word → (is : Bool) → is ≡ bytes_eq shown option → is ≡ true
    → slice_get (words_seen words) (at + 2 - 2) ≡ Some option
word_before words at word h e shown option is_shown is i t =
    let here : slice_get words at ≡ Some word = slice_get_read words (length words) at word refl h e in
    let same : string_bytes word ≡ option = sym is_shown ∙ same_name shown option (sym i ∙ t) in
    let back : at + 2 - 2 ≡ at = omega arith in
    subst (λ (n : ℕ). slice_get (words_seen words) n ≡ Some option) (sym back)
    (slice_get-map string_bytes words at ∙ ap (λ (w : Option (String Global)). option_map string_bytes w) here ∙ ap (λ (w : Word). Some w) same)

-- the word at a place is this one
pub word_there : (words : List (String Global)) (at : ℕ) (word : String Global) → at < length words → word ≡ get_or words at word
    → (shown name : Word) → shown ≡ string_bytes word → (is : Bool) → is ≡ bytes_eq shown name → is ≡ true
    → slice_get (words_seen words) at ≡ Some name
word_there words at word h e shown name is_shown is i t =
    let here : slice_get words at ≡ Some word = slice_get_read words (length words) at word refl h e in
    let same : string_bytes word ≡ name = sym is_shown ∙ same_name shown name (sym i ∙ t) in
    slice_get-map string_bytes words at ∙ ap (λ (w : Option (String Global)). option_map string_bytes w) here ∙ ap (λ (w : Word). Some w) same
