use Rattle.std.proofs.Common.{◌≡◌, ◌∙◌, ap, subst, string_bytes, length}
use Rattle.std.specs.Option.{option_map}
use Rattle.xmt_isa.specs.declared.image.Image.{Image}
use Rattle.xmt_jobs.proofs.Sizes.{data_size}
use Rattle.xmt_jobs.proofs.Loaded.{dumped}
use Rattle.xmt_jobs.proofs.loaded_image.run_loaded.Goals as goal

pub dump_words-requires : goal.dump_words-requires
dump_words-requires g c =
    let e = c.in-Done.ensures.end in
    let eight = subst (λ (image : Image). length image.ps ≡ 8) c.image.ensures.same c.registers-registers.ensures.eight in
    record { size = ap length e.3 ∙ data_size c.args.image.now c.in-Ok.memory.words c.args.options.now.units e.0 eight c.in-Ok.ensures.size e.1.reached.legal }

pub returns-in-Done-clause-ended : goal.returns-in-Done-clause-ended
returns-in-Done-clause-ended g c =
    dumped c.args.image.now c.args.options.now (option_map string_bytes c.args.map.now) (option_map string_bytes c.args.dump.now)
    (g.H.Host.told c.args.host.now)
    (g.H.Host.told c.dump_words.new.host) c.in-Ok.memory.words c.in-Ok.ensures.ok
    (g.H.Host.told c.opening_memory.new.host).out (g.H.Host.told c.simulate.new.host).out c.in-Ok.ensures.only.out c.dump_words.ensures.only.out (g.H.Host.told c.simulate.new.host).files
    (c.in-Done.ensures.only.files ∙ c.in-Ok.ensures.only.files) c.in-Done.memory.words c.in-Done.ensures.end c.dump_words.result c.dump_words.ensures.put
