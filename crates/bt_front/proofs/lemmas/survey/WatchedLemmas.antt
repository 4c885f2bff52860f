-- Lemmas on what a watched source has shown.
use Rattle.bt_lines.proofs.Std.{arith, common_steps, ◌≡◌, ◌∙◌, ◌⊎◌, ℕ, suc, ◌+◌, ◌-◌, ◌^◌, ◌++◌, [], IsSome, List, None, Option, Some, ap, append-nil, append_assoc, false, false≢true, inl, inr, is_some, list_all, min, refl, subst, sym, true}
use Rattle.bt_lines.specs.calls.Device.{FailsAfter, ReadsOn, begun, gave}
use Rattle.bt_lines.proofs.lemmas.reader.block.ReadsLemmas.{reads_then}
use Rattle.bt_front.specs.calls.Bytes.{EndsBytes, ShowsBytes, feeds_in}
use Rattle.bt_front.specs.declared.survey.byte_watch.ByteWatch.{ByteWatch}
use Rattle.bt_front.specs.declared.survey.oddity.OddLine.{OddLine}
use Rattle.bt_front.specs.declared.survey.oddity.Oddity.{Oddity}
use Rattle.bt_front.specs.declared.survey.watched.Watched.{Watched}
use Rattle.bt_front.specs.inside.Watched.{BeginsOdd, EndsBy, FailsWatched, IsPlainSoFar, IsWatchedRead, Passes, ServesWatched, Shows, ShowsBy}
use Rattle.bt_front.specs.model.Odd.{IsOddLine, is_plain, raw_lines}

-- a text that begins with an odd line, and ends there
odd_here : (bytes : List ℕ) (odd : OddLine) → BeginsOdd bytes odd → IsOddLine bytes odd
odd_here bytes odd begins = subst (λ (text : List ℕ). IsOddLine text odd) (append-nil bytes) (begins.first [])

shown_by : (bytes : List ℕ) (watch : ByteWatch) (feeds : ℕ) (found : Option OddLine) → ShowsBy bytes watch feeds found → is_some found ≡ true → EndsBy bytes found
shown_by bytes watch feeds None shows some = absurd (false≢true some)
shown_by bytes watch feeds (Some odd) shows some = odd_here bytes odd shows

module _ {S : Type 0} where
  -- an odd line that was found ends a text
  pub found_ends : (bytes : List ℕ) (watched : Watched S) → Shows bytes watched → is_some watched.found ≡ true → EndsBy bytes watched.found
  found_ends bytes watched shows some = shown_by bytes watched.watch watched.feeds watched.found shows.by some

  -- none was found
  pub plain_so_far : (bytes : List ℕ) (watched : Watched S) → Shows bytes watched → is_some watched.found ≡ false → IsPlainSoFar bytes watched.watch watched.feeds
  plain_so_far bytes watched shows none = plain_by watched.found none shows.by
    where
      plain_by : (found : Option OddLine) → is_some found ≡ false → ShowsBy bytes watched.watch watched.feeds found → IsPlainSoFar bytes watched.watch watched.feeds
      plain_by None none by = by
      plain_by (Some odd) none by = absurd (false≢true (sym none))

  -- the last line is odd
  pub end_found : (bytes : List ℕ) (watched : Watched S) (found : Option Oddity) (oddity : Oddity) (line : ℕ) → IsPlainSoFar bytes watched.watch watched.feeds
      → EndsBytes bytes found → found ≡ Some oddity → line ≡ min (2 ^ 64 - 1) (watched.feeds + 1)
      → IsOddLine bytes (record { line = line; oddity = oddity })
  end_found bytes watched found oddity line so_far ends is counted = record {
    number = suc (feeds_in bytes);
    first = ends.odd oddity is;
    line = omega (arith, counted, so_far.counted);
  }
