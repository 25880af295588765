-- `machine::store_refusal` meets its contract.
use mathlib.Core.Path.{◌≡◌, sym, ◌∙◌}
use mathlib.Core.Bool.{true}
use borrow.Author.Tests.{ne_eqb, not-true, not-false}
use Rattle.manager.specs.Refusals.{first_refusal}
use Rattle.cache.specs.Store.{store}
use Rattle.machine.specs.Refusals.{store_lengths}
use Rattle.machine.specs.Scaffold.Plans.{store_causes}
use Rattle.machine.proofs.StoreLaws.{lengths_memory, lengths_words, lengths_tags, lengths_right_lem}
use Rattle.machine.proofs.plans.store_refusal.Goals as goal

pub returns-then-memory-memory_words : goal.returns-then-memory-memory_words
unfolding first_refusal store_causes
returns-then-memory-memory_words c =
    rw (lengths_memory c.args.board (store c.args.memory.now c.args.words.now c.args.tags.now) (ne_eqb _ _ (λ e. c.if-memory-memory_words.true (e ∙ sym c.memory_words.ensures))))

pub returns-then-words-cache_words : goal.returns-then-words-cache_words
unfolding first_refusal store_causes
returns-then-words-cache_words c =
    rw (lengths_words c.args.board (store c.args.memory.now c.args.words.now c.args.tags.now) (ne_eqb _ _ (λ e. c.if-words-cache_words.true (e ∙ sym c.cache_words.ensures))))

pub returns-then-tags-lines : goal.returns-then-tags-lines
unfolding first_refusal store_causes
returns-then-tags-lines c =
    rw (lengths_tags c.args.board (store c.args.memory.now c.args.words.now c.args.tags.now) (ne_eqb _ _ (λ e. c.if-tags-lines.true (e ∙ sym c.lines.ensures))))

pub returns-then-not-tags_keep_rules : goal.returns-then-not-tags_keep_rules
unfolding first_refusal store_causes
returns-then-not-tags_keep_rules c =
    let lengths : store_lengths c.args.board (store c.args.memory.now c.args.words.now c.args.tags.now) ≡ true = lengths_right_lem _ (store c.args.memory.now c.args.words.now c.args.tags.now) (c.if-memory-memory_words.false ∙ c.memory_words.ensures) (c.if-words-cache_words.false ∙ c.cache_words.ensures) (c.if-tags-lines.false ∙ c.lines.ensures) in
    rw (lengths, sym c.tags_keep_rules.ensures ∙ not-true _ c.if-not-tags_keep_rules.true-raw)

pub returns : goal.returns
unfolding first_refusal store_causes
returns c =
    let lengths : store_lengths c.args.board (store c.args.memory.now c.args.words.now c.args.tags.now) ≡ true = lengths_right_lem _ (store c.args.memory.now c.args.words.now c.args.tags.now) (c.if-memory-memory_words.false ∙ c.memory_words.ensures) (c.if-words-cache_words.false ∙ c.cache_words.ensures) (c.if-tags-lines.false ∙ c.lines.ensures) in
    rw (lengths, sym c.tags_keep_rules.ensures ∙ not-false _ c.if-not-tags_keep_rules.false-raw)
