-- Document 01's format and limits fit; and so whatever is pending in a machine that meets question 2, if anything is, makes a range: a journal
-- write is never refused for its entries.
use Rattle.std.specs.Prelude.{ℕ, ◌+◌, ◌≤◌, ◌<◌, true, ◌≡◌, refl, List, [], ◌∷◌, length}
use Rattle.std.proofs.Common.{sym, subst, arith}
use Rattle.laws.specs.Fold.{sum}
use Rattle.laws.specs.Cut.{lengths}
use Rattle.layout.specs.declared.Geometry.{Geometry}
use Rattle.codec.specs.Codec.{JournalEntry, EntriesFit, Codec}
use Rattle.codec.specs.Format.{most_entries, most_entry_length, format, fit_lengths, facts_good, format_fit}
use Rattle.source.specs.JournalCache as M
use Rattle.source.specs.JournalCache.{if_none, to_write}
use Rattle.source.specs.Limits.{Limits, limits, Fitting}
use Rattle.source.specs.Meets.{MachineMeets}

-- of any limits up to the format's
pub format_fits : (L : Limits) → L.pending_entries ≤ most_entries → L.entry_bytes ≡ most_entry_length → Fitting format L
format_fits L few most =
    record {
      pending_good = λ es n k b f.
          facts_good es (record { any = n; few = omega (arith, k, few); each = fit_lengths most_entry_length es (subst (λ (m : ℕ). EntriesFit m es) most f) });
      parse_fit = λ jr es p. subst (λ (m : ℕ). EntriesFit m es) (sym most) (format_fit jr es p);
    }

pub limits_fit : Fitting format limits
limits_fit = format_fits limits (omega arith) refl

-- what a journal write sends
pub write_good : (g : Geometry) (C : Codec) (L : Limits) → Fitting C L → (s : M.ReadyVariables) → MachineMeets g L (M.Variables.Ready s) → 0 < length (to_write s) → C.good (to_write s) ≡ true
write_good g C L fits s m n = go s.in_memory_journal_frozen s.in_memory_journal m.counts.pending_few m.counts.pending_small m.shape.frozen_fit m.shape.memory_fit n
  where
    go : (frozen memory : List JournalEntry) → length frozen + length memory ≤ L.pending_entries → sum (lengths frozen) + sum (lengths memory) ≤ L.pending_bytes
        → EntriesFit L.entry_bytes frozen → EntriesFit L.entry_bytes memory → 0 < length (if_none frozen memory frozen) → C.good (if_none frozen memory frozen) ≡ true
    go [] memory few small p q n = fits.pending_good memory n (omega (arith, few)) (omega (arith, small)) q
    go (e ∷ es) memory few small p q n = fits.pending_good (e ∷ es) n (omega (arith, few)) (omega (arith, small)) p
