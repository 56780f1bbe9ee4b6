mod Broken
mod Puts
mod Sizes
mod Loaded
mod Programs
