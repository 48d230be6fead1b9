mod Locals
