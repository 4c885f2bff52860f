-- The words of std that proofs use.
pub use Rattle.std.proofs.Common.{Bool, Decides, Err, Fits, List, MatchBool, None, Ok, Option, Result, Some, [], add-one, add-zero, add_assoc, ap, append-nil, append_assoc, ap₂, arith, bit_and, bit_or, bit_xor, bytes_eq, codes, cond, decimal, drop, eqb, false, filter, get_or, inl, inr, leb, leb-true, length, length-append, length-take, ltb, map, max, min, nat_eq, nat_le, nat_lt, not, option_to_list, pow-suc, refl, replicate, rules, set, slice_index_or, slice_range, slice_set, subst, suc, sym, take, true, vec_capacity, w64, w8, zero, ℕ, ⊎_elim, ◌%◌, ◌&&◌, ◌*◌, ◌++◌, ◌+◌, ◌-◌, ◌/◌, ◌<◌, ◌==◌, ◌^◌, ◌||◌, ◌∙◌, ◌∷◌, ◌≡◌, ◌≤◌, ◌⊎◌}
pub use Rattle.std.proofs.KnownBytes.{Consumes-nil, Consumes-trans}
pub use Rattle.std.proofs.Math.Bool.{or-false}
pub use Rattle.std.proofs.Math.Dec.{T}
pub use Rattle.std.proofs.Math.Facts.{eqb_yes}
pub use Rattle.std.proofs.Math.ListN.{drop_of_length-le, get_or-append, get_or-eq_default}
pub use Rattle.std.proofs.Math.Nat.{add-mul-mod_self_right, eq_of_mul-eq-mul_left, mod-add-div, mul-suc, mul_assoc, pow-le-pow_right, pow-succ'}
pub use Rattle.std.proofs.Math.Seq.{drop-append-add, drop-append_seam, drop-cons, drop-length, get_or-append_right, get_or-append_seam, paste, take-add, take-append-add, take-append_seam, take-length, take-nil}
pub use Rattle.std.proofs.lemmas.Bool.{agree_below, agree_below_at, and_from, and_left, and_parts, and_right, cases_Bool, cases_eq, cases_lt, cond-false, cond-true, eq-eqb, eqb-false, eqb-true, false_from_ne_true, false≢true, le-leb, le-ltb, leb-false, lt-leb, lt-ltb, ltb-false, ltb-true, ne_eqb, not-false, not-true, not_from_false, not_from_true, or_cases, or_from, or_left, or_parts, or_right}
pub use Rattle.std.proofs.lemmas.Bool.Decides.{Decides-and, Decides-below_or, Decides-like, Decides-ltb, Decides-not, Decides-or, nat_tests}
pub use Rattle.std.proofs.lemmas.Fmt.{decimal-digits_value, decimal_digit, decimal_is_IsNumeral, length-decimal-le}
pub use Rattle.std.proofs.lemmas.Fn.{filter_same}
pub use Rattle.std.proofs.lemmas.Grind.{common_steps, flat_map-append, get_or_default_zero, take_at_read}
pub use Rattle.std.proofs.lemmas.Int.Digits.{digits_value-lt, digits_value_is, digits_value_more, number_after_append, number_after_ge}
pub use Rattle.std.proofs.lemmas.Iterator.Adapters.{position_from-zero}
pub use Rattle.std.proofs.lemmas.List.{append_cancel_left, append_cancel_right, drop-append-le, drop-drop, drop-map, drop-set, drop-take, drop_all, drop_at, drop_more, get_or-append-add, get_or-drop, get_or-map, get_or-replicate, get_or-take, get_or_append_left, get_or_default, get_or_past, length-drop, length-map, length-replicate, length-set, length-take-le, map-append, map-id, map-set, nil_from_length, reverse-append, same_from_push, set-get_or, take-append-drop, take-append-le, take-map, take-take, take_all, take_at, take_more, take_more_set, take_rest}
pub use Rattle.std.proofs.lemmas.List.Elements.{All-append, All-cons, All-contains, All-filter, All-from_recursion, All-head, All-more, All-nil, All-push, All-tail, All-take, All-weaker, Contains-push, filter-append, filter_agree, filter_passes, recursion_from_All}
pub use Rattle.std.proofs.lemmas.List.Filters.{length-filter_both}
pub use Rattle.std.proofs.lemmas.List.Folds.{drop_split, flat_map-map, length-prefix_len, list_all-append, list_all_at, list_all_more, list_any-append}
pub use Rattle.std.proofs.lemmas.List.Kept.{AllPairs-cons, IsNonDecreasingBy-filter}
pub use Rattle.std.proofs.lemmas.List.Sorted.{IsNonDecreasingBy-push, IsPermutation-append_comm, IsPermutation-append_left, IsPermutation-append_right, IsPermutation-map, IsPermutation-refl, IsPermutation-trans, list_any-IsPermutation, sum_by-IsPermutation}
pub use Rattle.std.proofs.lemmas.List.Splits.{join_with_byte-slice_split, length-slice_split, slice_split_at, slice_split_none}
pub use Rattle.std.proofs.lemmas.List.Sums.{count_by-le-length, get_or-le-sum_by, length-filter, prefix_len-le-length, prefix_len_stops, sum_by-append, sum_by-cons, sum_by_push, take_while-cons}
pub use Rattle.std.proofs.lemmas.Map.Views.{any-filter_same}
pub use Rattle.std.proofs.lemmas.Nat.{and_assoc, and_block, and_comm, and_le_l, and_le_r, and_mask, and_or_apart, and_or_self, le_bytes_4, mod_below, one_shl, or_block, or_comm, pow-add, shr_split, xor_block, xor_of_8}
pub use Rattle.std.proofs.lemmas.Nat.Bits.{and_high}
pub use Rattle.std.proofs.lemmas.Option.{IfSome_then, cond_some, get_or_from_slice_get, none-some, slice_get-get_or, slice_get-map, slice_get_read, slice_get_within}
pub use Rattle.std.proofs.lemmas.Result.{err_from_is_err_and, on_ok_weaker}
pub use Rattle.std.proofs.lemmas.Simd.{first_set_mask_l, length-chunk, length-put_chunk, mask_l-mod, put_chunk_is, splat_is_map, take_more_put_chunk, tops_compared, trailing_mask_l, zip2_of_maps, zip2_splat}
pub use Rattle.std.proofs.lemmas.Slice.{take-put_mid, take-put_mid_below}
pub use Rattle.std.proofs.lemmas.Slice.Eq.{bytes_eq-Decides}
pub use Rattle.std.proofs.lemmas.Str.Parse.{digit_from_value, numerals_by_value, tells_digits}
pub use Rattle.std.specs.BTreeMap.{BTreeMap, btree_map_len, get}
pub use Rattle.std.specs.BinaryHeap.{IsUpperBound, PopsGreatest, heap_items, heap_len}
pub use Rattle.std.specs.Char.{digit_value, is_ascii_digit}
pub use Rattle.std.specs.Cmp.{nat_cmp_total, ranked, tied_itself}
pub use Rattle.std.specs.Cmp.Lexicographic.{bytes_decides, nat_list_cmp_total, slice_cmp}
pub use Rattle.std.specs.Fmt.{digit_glyph, digits_onto}
pub use Rattle.std.specs.Int.{IsInRange, from_le_bytes, w32}
pub use Rattle.std.specs.Int.Bits.{and_zero_r, xor_add_and, xor_zero_r}
pub use Rattle.std.specs.Int.Digits.{number_from_digits, number_from_digits_after}
pub use Rattle.std.specs.Io.BufRead.{ends_with_byte, strip_last}
pub use Rattle.std.specs.Io.KnownBytes.{Consumes, IsAtEnd, prepend_known}
pub use Rattle.std.specs.List.{AllByRecursion, AllPairs, find, join_with_byte, list_all, list_any, position_from, position_or_len, prefix_len, slice_get, take_while}
pub use Rattle.std.specs.List.Sorted.{IsNonDecreasingBy, IsPartitionPoint, IsStrictlyIncreasing}
pub use Rattle.std.specs.Map.{keys_of}
pub use Rattle.std.specs.Option.{ForSome, option_eq, option_or}
pub use Rattle.std.specs.Ordering.{is_lt, nat_cmp, ordering_reverse, ordering_then}
pub use Rattle.std.specs.Prelude.{All, IfErr, IfNone, IfOk, IfSome, IsErr, IsErrAnd, IsNone, IsOk, IsPermutation, IsSome, IsTrue, MatchResult, OnErr, OnOk, String, Vec, count_by, flat_map, if◌then◌else◌, is_err, is_none, is_some, option_and_then, option_map, position, slice_index, string_bytes, sum_by, unwrap_or, ⊤, ◌↔◌, ◌≢◌}
pub use Rattle.std.specs.Result.{is_ok}
pub use Rattle.std.specs.Simd.Lanes.{Each1, chunk, mask_l, put_chunk, sel_l, top}
pub use Rattle.std.specs.Str.Parse.{AllDigits, digits_value}
pub use Rattle.std.specs.VecDeque.{deque_len}
