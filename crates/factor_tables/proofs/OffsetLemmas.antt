-- The branches that want an offset, and one record more.
use Rattle.std.proofs.Common.{◌≡◌, ℕ, List, [], ◌∷◌, ◌++◌, refl, Option, Some, None, Ok, Err}
use Rattle.std.specs.Prelude.{option_map}
use Rattle.std.specs.List.{find}
use Rattle.std.specs.Option.{option_map_or}
use Rattle.std.proofs.lemmas.List.Elements.{All-append, All-cons, All-nil}
use Rattle.market_data.specs.Participants.{IsDatum}
use Rattle.net_case.specs.Networks.{LiveNetwork}
use Rattle.net_case.specs.declared.live_parts.NetBranch.{NetBranch}
use Rattle.factor_tables.specs.declared.table_fault.TableFault.TheVariants as fault
use Rattle.factor_tables.specs.Offsets.{AreOffsets, OffsetEntry, wants_offset, with_all_offsets}

pub wanting : (network : LiveNetwork) (entries : List OffsetEntry) (row : ℕ) → Some row ≡ option_map (λ branch. branch.row) (find (wants_offset entries) network.branches)
    → with_all_offsets network entries ≡ Err (fault.NoOffset row)
wanting network entries row is = by (find (wants_offset entries) network.branches) is
  where
    by : (o : Option NetBranch) → Some row ≡ option_map (λ branch. branch.row) o → option_map_or (λ branch. Err (fault.NoOffset branch.row)) o (Ok entries) ≡ Err (fault.NoOffset row)
    by None is = cc
    by (Some branch) is = cc

pub wanting-none : (network : LiveNetwork) (entries : List OffsetEntry) → None ≡ option_map (λ (branch : NetBranch). branch.row) (find (wants_offset entries) network.branches)
    → with_all_offsets network entries ≡ Ok entries
wanting-none network entries is = by (find (wants_offset entries) network.branches) is
  where
    by : (o : Option NetBranch) → None ≡ option_map (λ (branch : NetBranch). branch.row) o → option_map_or (λ branch. Err (fault.NoOffset branch.row)) o (Ok entries) ≡ Ok entries
    by None is = refl
    by (Some branch) is = cc

pub offsets-push : (old new : List OffsetEntry) (entry : OffsetEntry) → AreOffsets old → IsDatum entry.1 → new ≡ old ++ entry ∷ [] → AreOffsets new
offsets-push old new entry are datum is = rw is (All-append (λ (e : OffsetEntry). IsDatum e.1) old (entry ∷ []) are (All-cons (λ (e : OffsetEntry). IsDatum e.1) entry [] datum (All-nil _)))
